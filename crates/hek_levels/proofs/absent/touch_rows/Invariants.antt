use Rattle.std.proofs.Common.{◌≡◌, ℕ, drop}
use Rattle.std.specs.Prelude.{is_some, ◌||◌}
use Rattle.hek_rules.specs.Listing.{value_of}
use Rattle.hek_levels.specs.Rows.{row_of}
use Rattle.hek_levels.proofs.absent.touch_rows.Given as goal

abbrev pub invariant-loop-row : goal.invariant-loop-row
invariant-loop-row l =
    (k : ℕ) → (is_some (value_of (drop l.row-index l.rows) k) || is_some (row_of l.touched k)) ≡ (is_some (value_of l.rows k) || is_some (row_of l.initial.touched k))
