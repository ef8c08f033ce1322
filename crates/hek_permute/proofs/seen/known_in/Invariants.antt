use Rattle.std.proofs.Common.{◌≡◌, None, length}
use Rattle.hek_program.specs.Told.{known_on}
use Rattle.hek_permute.specs.Plays.{own_of}
use Rattle.hek_permute.proofs.seen.known_in.Given as goal

abbrev pub invariant-loop-entry : goal.invariant-loop-entry
invariant-loop-entry l = known_on l.buckets l.key None (own_of l.txn l.history) ≡ known_on l.buckets l.key l.known (own_of l.txn l.rest)

abbrev pub decreases-loop-entry : goal.decreases-loop-entry
decreases-loop-entry l = length l.rest
