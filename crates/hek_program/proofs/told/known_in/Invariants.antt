use Rattle.std.proofs.Common.{length, ◌≡◌, None}
use Rattle.hek_program.specs.Told.{known_on}
use Rattle.hek_program.proofs.told.known_in.Given as goal

abbrev pub invariant-loop-step : goal.invariant-loop-step
invariant-loop-step l = known_on l.buckets l.key None l.steps ≡ known_on l.buckets l.key l.known l.rest

abbrev pub decreases-loop-step : goal.decreases-loop-step
decreases-loop-step l = length l.rest
