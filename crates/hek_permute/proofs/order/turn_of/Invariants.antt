use Rattle.std.proofs.Common.{length, ◌-◌, ◌≤◌}
use Rattle.hek_permute.specs.Falls.{FallsFrom}
use Rattle.hek_permute.proofs.order.turn_of.Given as goal

abbrev pub invariant-loop-place : goal.invariant-loop-place
invariant-loop-place l = (l.place ≤ length l.order) × FallsFrom (l.place - 1) l.order

abbrev pub decreases-loop-place : goal.decreases-loop-place
decreases-loop-place l = l.place
