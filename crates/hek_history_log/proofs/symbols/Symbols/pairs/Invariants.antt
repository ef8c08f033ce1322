use Rattle.std.proofs.Common.{◌≡◌, ℕ, List, All, map, take}
use Rattle.json.specs.Value.{value_view}
use Rattle.hek_history_log.specs.Kept.{KeepsLabels}
use Rattle.hek_history_log.specs.LogText.{pair_json}
use Rattle.hek_history_log.specs.Readable.{IsOwnPair}
use Rattle.hek_history_log.proofs.symbols.Symbols.pairs.Given as goal

abbrev pub invariant-loop-item : goal.invariant-loop-item
invariant-loop-item l = (ps : List (ℕ × ℕ)) → All IsOwnPair ps → map value_view l.items ≡ map pair_json ps → (l.pairs.items ≡ take l.item-index ps) × KeepsLabels l.fn.self l.self
