use Rattle.std.proofs.Common.{◌+◌, ◌++◌, refl, sym, length}
use Rattle.hek_rules.specs.World.{World}
use Rattle.hek_step_report.specs.StateText.{txn_line, txn_lines}
use Rattle.hek_step_report.proofs.NumberedLines.{numbers_next}
use Rattle.hek_step_report.proofs.text.state.put_all_txns.Goals as goal

pub loop-place-preserved : goal.loop-place-preserved
loop-place-preserved c =
    let i = c.loop-place.place in
    let p = c.args.schedule.now in
    numbers_next c.args.machine.now (λ (w : World). txn_line p w) (λ (w : World). length p.txns) i (i + 1) (i + 1 + 1) c.txn_count-place-end.result c.new.result
    c.loop-place.lines.items c.put_txn.new.lines.items (λ (w : World). c.args.lines.now.items ++ txn_lines p w)
    c.loop-place-test.true (λ w s. sym c.txn_count-place-end.ensures) c.new.ensures refl (λ w s _. sym (c.in_ok-put_txn.ensures w s)) c.loop-place.invariant
