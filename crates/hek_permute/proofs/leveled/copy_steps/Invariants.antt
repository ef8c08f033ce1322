use Rattle.std.proofs.Common.{◌≡◌, take}
use Rattle.hek_permute.proofs.leveled.copy_steps.Given as goal

abbrev pub invariant-loop-step : goal.invariant-loop-step
invariant-loop-step l = l.made ≡ record l.fn.made { steps = take l.step-index l.steps }
