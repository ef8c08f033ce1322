use Rattle.std.proofs.Common.{◌++◌, ◌+◌, length}
use Rattle.hek_rules.specs.World.{World}
use Rattle.hek_step_report.specs.StateText.{txn_line, txn_lines}
use Rattle.hek_step_report.proofs.NumberedLines.{Numbers}
use Rattle.hek_step_report.proofs.text.state.put_all_txns.Given as goal

abbrev pub invariant-loop-place : goal.invariant-loop-place
invariant-loop-place l = Numbers l.machine (λ (w : World). txn_line l.schedule w) (λ (w : World). length l.schedule.txns) l.place (l.place + 1) l.lines.items (λ (w : World). l.fn.lines.items ++ txn_lines l.schedule w)
