use Rattle.std.proofs.Common.{length}
use Rattle.hek_explore.proofs.Rows.{IsTalliedTo}
use Rattle.hek_explore.proofs.walk.tally_of.Given as goal

abbrev pub invariant-loop-class : goal.invariant-loop-class
invariant-loop-class l = IsTalliedTo l.schedule l.form l.moves l.layer l.tally l.rest

abbrev pub decreases-loop-class : goal.decreases-loop-class
decreases-loop-class l = length l.rest
