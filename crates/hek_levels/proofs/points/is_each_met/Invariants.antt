use Rattle.std.proofs.Common.{◌≡◌, ◌<◌, ℕ, true, Some}
use Rattle.hek_levels.specs.declared.log.Read.{Read}
use Rattle.hek_levels.specs.declared.log.Place.TheVariants.{Listed}
use Rattle.hek_levels.specs.Logs.{meets, read_at}
use Rattle.hek_levels.specs.Rows.{row_of}
use Rattle.hek_levels.proofs.points.is_each_met.Given as goal

abbrev pub invariant-loop-r : goal.invariant-loop-r
invariant-loop-r l = (q : ℕ) (read : Read) → q < l.r → read_at l.log l.t (Listed q) ≡ Some read → meets read.need (row_of l.rows read.key) ≡ true
