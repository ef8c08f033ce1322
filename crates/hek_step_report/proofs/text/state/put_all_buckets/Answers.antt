use Rattle.std.proofs.Common.{◌+◌, ◌++◌, refl, sym}
use Rattle.hek_rules.specs.World.{World}
use Rattle.hek_step_report.specs.StateText.{bucket_line, bucket_lines}
use Rattle.hek_step_report.proofs.NumberedLines.{numbers_next}
use Rattle.hek_step_report.proofs.text.state.put_all_buckets.Goals as goal

pub loop-bucket-preserved : goal.loop-bucket-preserved
loop-bucket-preserved c =
    let i = c.loop-bucket.bucket in
    numbers_next c.args.machine.now (λ (w : World). bucket_line w) (λ (w : World). w.buckets) i i (i + 1) c.buckets-bucket-end.result i
    c.loop-bucket.lines.items c.put_bucket.new.lines.items (λ (w : World). c.args.lines.now.items ++ bucket_lines w)
    c.loop-bucket-test.true c.buckets-bucket-end.ensures.shown refl refl (λ w s _. sym (c.in_ok-put_bucket.ensures w s)) c.loop-bucket.invariant
