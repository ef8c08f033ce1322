use Rattle.std.proofs.Common.{◌≡◌, ◌≤◌, ℕ, length, drop}
use Rattle.hek_levels.specs.Logs.{left_in}
use Rattle.hek_levels.specs.Rows.{row_of, left_over}
use Rattle.hek_levels.proofs.rows.change_rows.Given as goal

abbrev pub invariant-loop-n : goal.invariant-loop-n
invariant-loop-n l = record {
  within : l.n ≤ length l.changes;
  changed : (k : ℕ) → row_of l.rows k ≡ left_over (left_in (drop l.n l.changes) k) (row_of l.initial.rows k);
}

abbrev pub decreases-loop-n : goal.decreases-loop-n
decreases-loop-n l = l.n
