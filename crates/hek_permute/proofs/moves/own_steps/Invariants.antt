use Rattle.std.proofs.Common.{◌≡◌, ◌++◌, filter, length}
use Rattle.hek_permute.specs.Moves.{is_move, with_rules}
use Rattle.hek_permute.proofs.moves.own_steps.Given as goal

abbrev pub invariant-loop-step : goal.invariant-loop-step
invariant-loop-step l =
    filter (is_move l.txn) (with_rules l.steps l.rules) ≡ l.own.items ++ filter (is_move l.txn) (with_rules l.rest l.rules_rest)

abbrev pub decreases-loop-step : goal.decreases-loop-step
decreases-loop-step l = length l.rest
