use Rattle.std.proofs.Common.{◌++◌, length}
use Rattle.hek_rules.specs.World.{World}
use Rattle.hek_step_report.specs.StateText.{version_line, version_lines}
use Rattle.hek_step_report.proofs.NumberedLines.{Numbers}
use Rattle.hek_step_report.proofs.text.state.put_all_versions.Given as goal

abbrev pub invariant-loop-index : goal.invariant-loop-index
invariant-loop-index l = Numbers l.machine (λ (w : World). version_line w) (λ (w : World). length w.versions) l.index l.index l.lines.items (λ (w : World). l.fn.lines.items ++ version_lines w)
