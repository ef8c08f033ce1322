use Rattle.std.proofs.Common.{◌≡◌, ◌<◌, ℕ, true, Some}
use Rattle.std.specs.Prelude.{slice_get}
use Rattle.hek_levels.specs.declared.log.Read.{Read}
use Rattle.hek_levels.specs.declared.log.Place.TheVariants as place
use Rattle.hek_levels.specs.Logs.{read_at}
use Rattle.hek_levels.specs.Uncommitted.{is_found}
use Rattle.hek_levels.proofs.uncommitted.lost_missing.Given as goal

abbrev pub invariant-loop-n : goal.invariant-loop-n
invariant-loop-n l = (k key : ℕ) (read : Read) → k < l.n → slice_get l.keys k ≡ Some key → read_at l.log l.t (place.Missing l.s key) ≡ Some read → is_found l.log l.t read ≡ true
