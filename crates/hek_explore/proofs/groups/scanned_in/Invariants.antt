use Rattle.std.proofs.Common.{◌≡◌, ◌++◌, length}
use Rattle.hek_explore.specs.Groups.{scanned_in}
use Rattle.hek_explore.proofs.groups.scanned_in.Given as goal

abbrev pub invariant-loop-step : goal.invariant-loop-step
invariant-loop-step l = scanned_in l.steps ≡ l.buckets.items ++ scanned_in l.rest

abbrev pub decreases-loop-step : goal.decreases-loop-step
decreases-loop-step l = length l.rest
