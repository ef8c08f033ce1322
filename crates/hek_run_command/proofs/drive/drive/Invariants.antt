use Rattle.std.proofs.Common.{◌≡◌, ◌≤◌, false}
use Rattle.hek_run_command.specs.Driven.{HasAnswers}
use Rattle.hek_run_command.proofs.drive.drive.Given as goal

-- what is written so far is some answers
abbrev pub invariant-loop-number : goal.invariant-loop-number
invariant-loop-number g l = (l.status ≤ 1) × (l.fn.driving.prompts ≡ false → HasAnswers l.fn.driving.ends (g.W.Write.contents l.fn.out) (g.W.Write.contents l.out))
