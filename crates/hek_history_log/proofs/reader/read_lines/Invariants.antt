-- The lines so far were read, and the others are ahead.
use Rattle.std.proofs.Common.{◌≡◌, ℕ, Some, None}
use Rattle.hek_history.specs.declared.history.History.{History}
use Rattle.hek_history_log.specs.HasRead.{IsFresh}
use Rattle.hek_history_log.specs.LogText.{log_text}
use Rattle.hek_history_log.specs.Readable.{IsReadableLog}
use Rattle.hek_history_log.proofs.LineLemmas.{IsAt}
use Rattle.hek_history_log.proofs.reader.read_lines.Given as goal

abbrev pub invariant-loop-number : goal.invariant-loop-number
invariant-loop-number g l =
    (buckets : ℕ) (h : History) → IsReadableLog buckets h → g.B.Read.remaining l.fn.input ≡ Some (log_text buckets h) → IsFresh l.fn.draft
    → (l.first ≡ None) × IsAt buckets h l.number l.draft (g.B.Read.remaining l.input)
