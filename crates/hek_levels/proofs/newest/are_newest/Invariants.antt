use Rattle.std.proofs.Common.{◌≡◌, ℕ, ◌<◌, Some}
use Rattle.std.specs.HashMap.{get}
use Rattle.std.specs.Prelude.{◌==◌, slice_get}
use Rattle.hek_levels.specs.declared.log.Place.TheVariants as place
use Rattle.hek_levels.specs.declared.certificate.Missing.{Missing}
use Rattle.hek_levels.specs.Explanations.{explanation, given_of}
use Rattle.hek_levels.specs.Levels.{asked_of}
use Rattle.hek_levels.specs.Seen.{At}
use Rattle.hek_levels.specs.Sweeps.{AreLast, IsNewestAt}
use Rattle.hek_levels.proofs.newest.are_newest.Given as goal

abbrev pub invariant-loop-i : goal.invariant-loop-i
invariant-loop-i l = record {
  listed : (k : ℕ) → k < l.i → (t r : ℕ) → At l.certificate.order.items k t → IsNewestAt (asked_of l.asked t) l.log (explanation l.certificate) t (place.Listed r);
  given : (k : ℕ) → k < l.i → (t n : ℕ) (one : Missing) → At l.certificate.order.items k t → slice_get (given_of l.certificate t) n ≡ Some one →
      IsNewestAt (asked_of l.asked t) l.log (explanation l.certificate) t (place.Missing one.scan one.key);
  last : AreLast l.log l.certificate.order.items l.i (get ◌==◌ l.last);
}
