use Rattle.hek_explore.proofs.Growing.{AreFirst}
use Rattle.hek_explore.proofs.grow.grow_class.Given as goal

abbrev pub invariant-loop-place : goal.invariant-loop-place
invariant-loop-place l = AreFirst l.schedule l.form l.moves l.class l.place l.grown
