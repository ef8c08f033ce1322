use Rattle.std.proofs.Common.{length}
use Rattle.hek_explore.proofs.Classes.{IsPassedTo}
use Rattle.hek_explore.proofs.walk.next_layer.Given as goal

abbrev pub invariant-loop-rest : goal.invariant-loop-rest
invariant-loop-rest g l = IsPassedTo l.schedule l.form l.moves l.layer l.next l.rest

abbrev pub decreases-loop-rest : goal.decreases-loop-rest
decreases-loop-rest g l = length l.rest
