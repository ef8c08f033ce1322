use Rattle.std.proofs.Common.{◌++◌}
use Rattle.hek_rules.specs.World.{World}
use Rattle.hek_step_report.specs.StateText.{bucket_line, bucket_lines}
use Rattle.hek_step_report.proofs.NumberedLines.{Numbers}
use Rattle.hek_step_report.proofs.text.state.put_all_buckets.Given as goal

abbrev pub invariant-loop-bucket : goal.invariant-loop-bucket
invariant-loop-bucket l = Numbers l.machine (λ (w : World). bucket_line w) (λ (w : World). w.buckets) l.bucket l.bucket l.lines.items (λ (w : World). l.fn.lines.items ++ bucket_lines w)
