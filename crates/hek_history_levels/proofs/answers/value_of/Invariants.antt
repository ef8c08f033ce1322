use Rattle.std.proofs.Common.{◌≡◌, drop}
use Rattle.hek_rules.specs.Listing.{value_of}
use Rattle.hek_history_levels.proofs.answers.value_of.Given as goal

abbrev pub invariant-loop-row : goal.invariant-loop-row
invariant-loop-row l = value_of (drop l.row-index l.rows) l.key ≡ value_of l.rows l.key
