use Rattle.std.specs.HashMap.{get}
use Rattle.std.specs.Prelude.{◌==◌}
use Rattle.hek_levels.specs.Explanations.{explanation}
use Rattle.hek_levels.specs.Sweeps.{IsSwept}
use Rattle.hek_levels.proofs.newest.sweep.Given as goal

abbrev pub invariant-loop-p : goal.invariant-loop-p
invariant-loop-p l = IsSwept l.rules l.log (explanation l.certificate) l.t l.n l.key l.p (get ◌==◌ l.sight.marked) (get ◌==◌ l.sight.lanes) (get ◌==◌ l.sight.keys) l.sight.is_any

abbrev pub decreases-loop-p : goal.decreases-loop-p
decreases-loop-p l = l.p
