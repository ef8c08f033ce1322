use Rattle.std.proofs.Common.{◌≡◌, ℕ, drop}
use Rattle.std.specs.Prelude.{is_some, ◌||◌}
use Rattle.hek_levels.specs.Logs.{left_in}
use Rattle.hek_levels.specs.Rows.{row_of}
use Rattle.hek_levels.proofs.absent.touch_all.Given as goal

abbrev pub invariant-loop-change : goal.invariant-loop-change
invariant-loop-change l =
    (k : ℕ) → (is_some (left_in (drop l.change-index l.changes) k) || is_some (row_of l.touched k)) ≡ (is_some (left_in l.changes k) || is_some (row_of l.initial.touched k))
