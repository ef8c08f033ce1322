use Rattle.std.proofs.Common.{length}
use Rattle.hek_explore.proofs.Growing.{IsGrownTo}
use Rattle.hek_explore.proofs.grow.grow_classes.Given as goal

abbrev pub invariant-loop-class : goal.invariant-loop-class
invariant-loop-class l = IsGrownTo l.schedule l.form l.moves l.classes l.rest l.all.items

abbrev pub decreases-loop-class : goal.decreases-loop-class
decreases-loop-class l = length l.rest
