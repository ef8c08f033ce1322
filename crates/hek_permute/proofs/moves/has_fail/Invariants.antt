use Rattle.std.proofs.Common.{length, ◌≡◌}
use Rattle.hek_permute.specs.Moves.{has_fail, with_rules}
use Rattle.hek_permute.proofs.moves.has_fail.Given as goal

abbrev pub invariant-loop-step : goal.invariant-loop-step
invariant-loop-step l = has_fail l.txn (with_rules l.steps l.rules) ≡ has_fail l.txn (with_rules l.rest l.rules_rest)

abbrev pub decreases-loop-step : goal.decreases-loop-step
decreases-loop-step l = length l.rest
