use Rattle.std.proofs.Common.{length, ◌≡◌}
use Rattle.hek_permute.specs.Outcomes.{has_wait}
use Rattle.hek_permute.proofs.outcome.some_waited.Given as goal

abbrev pub invariant-loop-entry : goal.invariant-loop-entry
invariant-loop-entry l = has_wait l.history ≡ has_wait l.rest

abbrev pub decreases-loop-entry : goal.decreases-loop-entry
decreases-loop-entry l = length l.rest
