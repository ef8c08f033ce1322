use Rattle.std.proofs.Common.{◌≡◌, ◌<◌, ℕ, true, Some}
use Rattle.hek_levels.specs.declared.log.Read.{Read}
use Rattle.hek_levels.specs.declared.log.Place.TheVariants as place
use Rattle.hek_levels.specs.Logs.{read_at}
use Rattle.hek_levels.specs.Uncommitted.{is_found}
use Rattle.hek_levels.proofs.uncommitted.lost_in_scans.Given as goal

abbrev pub invariant-loop-s : goal.invariant-loop-s
invariant-loop-s l = (q key : ℕ) (read : Read) → q < l.s → read_at l.log l.t (place.Missing q key) ≡ Some read → is_found l.log l.t read ≡ true
