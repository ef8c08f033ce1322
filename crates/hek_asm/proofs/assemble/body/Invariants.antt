use Rattle.std.proofs.Common.{◌≡◌, ◌+◌, ◌≤◌, length, Some}
use Rattle.hek_rules.specs.Text.{lines_of}
use Rattle.hek_asm.specs.Text.{lines_after}
use Rattle.hek_asm.proofs.assemble.body.Given as goal

abbrev pub invariant-loop-line : goal.invariant-loop-line
invariant-loop-line l = (lines_after (l.number + 1) (Some l.schedule) (lines_of l.rest) ≡ lines_after (l.fn.number + 1) (Some l.fn.schedule) (lines_of l.fn.rest)) × (l.number + length l.rest ≤ l.fn.number + length l.fn.rest)

abbrev pub decreases-loop-line : goal.decreases-loop-line
decreases-loop-line l = length l.rest
