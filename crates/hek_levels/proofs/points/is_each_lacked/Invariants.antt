use Rattle.std.proofs.Common.{◌≡◌, ◌<◌, ℕ, true, Some}
use Rattle.hek_levels.specs.declared.log.Read.{Read}
use Rattle.hek_levels.specs.declared.log.Place.TheVariants as place
use Rattle.hek_levels.specs.Logs.{meets, read_at}
use Rattle.hek_levels.specs.Rows.{row_of}
use Rattle.hek_levels.proofs.points.is_each_lacked.Given as goal

abbrev pub invariant-loop-n : goal.invariant-loop-n
invariant-loop-n l = (s key : ℕ) (read : Read) → s < l.n → read_at l.log l.t (place.Missing s key) ≡ Some read → meets read.need (row_of l.rows read.key) ≡ true
