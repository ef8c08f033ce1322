use Rattle.std.proofs.Common.{◌≡◌, ◌++◌, drop, map}
use Rattle.std.specs.List.{flat_map}
use Rattle.hek_rules.specs.Lines.{line_text}
use Rattle.hek_asm.specs.Canonical.{txn_words}
use Rattle.hek_asm.proofs.schedule_text.put_txns.Given as goal

-- with the lines left, the list would hold what the contract asks
abbrev pub invariant-loop-place : goal.invariant-loop-place
invariant-loop-place l = l.out.items ++ flat_map line_text (map txn_words (drop l.place l.schedule.txns)) ≡ l.fn.out.items ++ flat_map line_text (map txn_words l.schedule.txns)
