use Rattle.std.proofs.Common.{◌≡◌, ◌++◌, ℕ, List, All, map, take}
use Rattle.json.specs.Value.{value_view}
use Rattle.hek_history_log.specs.Kept.{KeepsLabels}
use Rattle.hek_history_log.specs.LogText.{pair_json}
use Rattle.hek_history_log.specs.Readable.{IsOwnPair}
use Rattle.hek_history_log.proofs.fields.add_rows.Given as goal

abbrev pub invariant-loop-place : goal.invariant-loop-place
invariant-loop-place l = (ps : List (ℕ × ℕ)) → All IsOwnPair ps → map value_view l.items ≡ map pair_json ps → KeepsLabels l.fn.symbols l.symbols × (l.rows.items ≡ l.fn.rows.items ++ take l.place ps)
