use Rattle.std.proofs.Common.{◌≡◌, ◌<◌, ℕ, Some}
use Rattle.std.specs.Prelude.{slice_get}
use Rattle.hek_levels.specs.declared.log.Scan.{Scan}
use Rattle.hek_levels.specs.Absences.{given_in_map, AreGiven}
use Rattle.hek_levels.proofs.absent.are_each_given.Given as goal

abbrev pub invariant-loop-n : goal.invariant-loop-n
invariant-loop-n l = (k : ℕ) (scan : Scan) → k < l.n → slice_get l.scans k ≡ Some scan → AreGiven l.rows (given_in_map l.map) k scan
