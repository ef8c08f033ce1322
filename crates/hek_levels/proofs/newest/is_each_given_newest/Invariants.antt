use Rattle.std.proofs.Common.{◌≡◌, ℕ, ◌<◌, Some}
use Rattle.std.specs.Prelude.{slice_get}
use Rattle.hek_levels.specs.declared.log.Place.TheVariants as place
use Rattle.hek_levels.specs.declared.certificate.Missing.{Missing}
use Rattle.hek_levels.specs.Explanations.{explanation}
use Rattle.hek_levels.specs.Levels.{asked_of}
use Rattle.hek_levels.specs.Sweeps.{IsNewestAt}
use Rattle.hek_levels.proofs.newest.is_each_given_newest.Given as goal

abbrev pub invariant-loop-n : goal.invariant-loop-n
invariant-loop-n l = (k : ℕ) (one : Missing) → k < l.n → slice_get l.given k ≡ Some one → IsNewestAt (asked_of l.asked l.t) l.log (explanation l.certificate) l.t (place.Missing one.scan one.key)
