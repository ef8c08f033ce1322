use Rattle.std.proofs.Common.{◌≡◌, ◌++◌, drop, map}
use Rattle.hek_rules.specs.Lines.{spaced}
use Rattle.hek_step_report.specs.StateText.{entry_text}
use Rattle.hek_step_report.proofs.text.putting.put_entry_members.Given as goal

-- with the members left, the lines would be what the contract asks
abbrev pub invariant-loop-entry : goal.invariant-loop-entry
invariant-loop-entry l = l.lines.items ++ spaced (map entry_text (drop l.entry-index l.entries)) ≡ l.fn.lines.items ++ spaced (map entry_text l.entries)
