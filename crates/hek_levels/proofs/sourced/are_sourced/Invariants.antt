use Rattle.std.proofs.Common.{ℕ, ◌<◌}
use Rattle.std.specs.HashMap.{get}
use Rattle.std.specs.Prelude.{◌==◌}
use Rattle.hek_levels.specs.declared.log.Place.TheVariants.{Listed}
use Rattle.hek_levels.specs.Explanations.{source_at}
use Rattle.hek_levels.specs.Places.{IsSourcedBy}
use Rattle.hek_levels.specs.Seen.{At}
use Rattle.hek_levels.proofs.sourced.are_sourced.Given as goal

abbrev pub invariant-loop-i : goal.invariant-loop-i
invariant-loop-i l = (k : ℕ) → k < l.i → (t r : ℕ) → At l.certificate.order.items k t → IsSourcedBy l.log (get ◌==◌ l.places) k t (Listed r) (source_at l.certificate t (Listed r))
