use Rattle.std.proofs.Common.{◌≡◌, ◌+◌, ◌≤◌, length, None}
use Rattle.hek_rules.specs.Text.{lines_of}
use Rattle.hek_asm.specs.Text.{lines_after}
use Rattle.hek_asm.proofs.assemble.assemble_text.Given as goal

abbrev pub invariant-loop-line : goal.invariant-loop-line
invariant-loop-line l = (lines_after (l.number + 1) None (lines_of l.rest) ≡ lines_after 1 None (lines_of l.text)) × (l.number + length l.rest ≤ length l.text)

abbrev pub decreases-loop-line : goal.decreases-loop-line
decreases-loop-line l = length l.rest
