use Rattle.std.proofs.Common.{length, ◌≡◌}
use Rattle.hek_permute.specs.Outcomes.{end_in}
use Rattle.hek_permute.proofs.outcome.end_of.Given as goal

abbrev pub invariant-loop-entry : goal.invariant-loop-entry
invariant-loop-entry l = end_in l.txn l.history ≡ end_in l.txn l.rest

abbrev pub decreases-loop-entry : goal.decreases-loop-entry
decreases-loop-entry l = length l.rest
