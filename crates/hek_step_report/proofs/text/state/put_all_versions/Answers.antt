use Rattle.std.proofs.Common.{◌+◌, ◌++◌, refl, length, arith}
use Rattle.hek_rules.specs.World.{World}
use Rattle.hek_step_report.specs.StateText.{version_line, version_lines}
use Rattle.hek_step_report.proofs.NumberedLines.{numbers_next}
use Rattle.hek_step_report.proofs.text.state.put_all_versions.Goals as goal

pub loop-index-preserved : goal.loop-index-preserved
loop-index-preserved c =
    let i = c.loop-index.index in
    numbers_next c.args.machine.now (λ (w : World). version_line w) (λ (w : World). length w.versions) i i (i + 1) c.versions-index-end.result c.new.result
    c.loop-index.lines.items c.put_version.new.lines.items (λ (w : World). c.args.lines.now.items ++ version_lines w)
    c.loop-index-test.true c.versions-index-end.ensures c.new.ensures refl (λ w s below. c.in_ok-put_version.ensures w s (let e = c.new.ensures in omega (arith, e, below))) c.loop-index.invariant
