use Rattle.std.proofs.Common.{◌≡◌, ◌<◌, ℕ, true, Some}
use Rattle.hek_levels.specs.declared.log.Read.{Read}
use Rattle.hek_levels.specs.declared.log.Place.TheVariants.{Listed}
use Rattle.hek_levels.specs.Logs.{read_at}
use Rattle.hek_levels.specs.Uncommitted.{is_found}
use Rattle.hek_levels.proofs.uncommitted.lost_listed.Given as goal

abbrev pub invariant-loop-r : goal.invariant-loop-r
invariant-loop-r l = (q : ℕ) (read : Read) → q < l.r → read_at l.log l.t (Listed q) ≡ Some read → is_found l.log l.t read ≡ true
