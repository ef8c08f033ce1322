use Rattle.std.proofs.Common.{ℕ, ◌<◌}
use Rattle.hek_levels.specs.declared.log.Place.TheVariants.{Listed}
use Rattle.hek_levels.specs.Explanations.{explanation}
use Rattle.hek_levels.specs.Levels.{asked_of}
use Rattle.hek_levels.specs.Sweeps.{IsNewestAt}
use Rattle.hek_levels.proofs.newest.is_each_newest.Given as goal

abbrev pub invariant-loop-r : goal.invariant-loop-r
invariant-loop-r l = (q : ℕ) → q < l.r → IsNewestAt (asked_of l.asked l.t) l.log (explanation l.certificate) l.t (Listed q)
