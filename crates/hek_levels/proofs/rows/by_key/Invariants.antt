use Rattle.std.proofs.Common.{◌≡◌, ℕ, drop}
use Rattle.hek_rules.specs.Listing.{value_of}
use Rattle.hek_levels.specs.Rows.{row_of, either}
use Rattle.hek_levels.proofs.rows.by_key.Given as goal

abbrev pub invariant-loop-row : goal.invariant-loop-row
invariant-loop-row l = (k : ℕ) → either (row_of l.map k) (value_of (drop l.row-index l.rows) k) ≡ value_of l.rows k
