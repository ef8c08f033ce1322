use Rattle.std.proofs.Common.{ℕ, ◌<◌}
use Rattle.std.specs.HashMap.{get}
use Rattle.std.specs.Prelude.{◌==◌}
use Rattle.hek_levels.specs.declared.log.Place.TheVariants.{Listed}
use Rattle.hek_levels.specs.Explanations.{source_at}
use Rattle.hek_levels.specs.Places.{IsSourcedBy}
use Rattle.hek_levels.proofs.sourced.is_each_sourced.Given as goal

abbrev pub invariant-loop-r : goal.invariant-loop-r
invariant-loop-r l = (q : ℕ) → q < l.r → IsSourcedBy l.log (get ◌==◌ l.places) l.i l.t (Listed q) (source_at l.certificate l.t (Listed q))
