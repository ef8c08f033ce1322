use Rattle.std.proofs.Common.{◌≡◌, ◌++◌, ℕ, List, All, Some, map, take}
use Rattle.json.specs.Value.{value_view}
use Rattle.hek_history.specs.declared.history.Operation.{Operation}
use Rattle.hek_history_log.specs.Contents.{content}
use Rattle.hek_history_log.specs.Kept.{KeepsLabels}
use Rattle.hek_history_log.specs.LogText.{operation_json}
use Rattle.hek_history_log.specs.Readable.{IsReadable}
use Rattle.hek_history_log.proofs.operations.add_operations.Given as goal

abbrev pub invariant-loop-place : goal.invariant-loop-place
invariant-loop-place l =
    (buckets : ℕ) (ops : List Operation) → All (IsReadable buckets) ops → l.fn.symbols.buckets ≡ Some buckets → map value_view l.items ≡ map operation_json ops
    → KeepsLabels l.fn.symbols l.symbols × (map content l.operations.items ≡ map content l.fn.operations.items ++ map content (take l.place ops))
