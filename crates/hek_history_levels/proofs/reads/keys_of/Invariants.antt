use Rattle.std.proofs.Common.{◌≡◌, ◌==◌, ℕ, drop}
use Rattle.std.specs.Prelude.{is_some, ◌||◌}
use Rattle.std.specs.List.{list_any}
use Rattle.hek_rules.specs.Listing.{value_of}
use Rattle.hek_history_levels.proofs.reads.keys_of.Given as goal

abbrev pub invariant-loop-pair : goal.invariant-loop-pair
invariant-loop-pair l = (key : ℕ) → (list_any (λ (k : ℕ). k == key) l.keys.items || is_some (value_of (drop l.pair-index l.pairs) key)) ≡ is_some (value_of l.pairs key)
