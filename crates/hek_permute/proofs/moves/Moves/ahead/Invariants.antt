use Rattle.std.proofs.Common.{◌≡◌, ◌-◌, ◌^◌}
use Rattle.hek_permute.specs.Plays.{ahead, shown_to}
use Rattle.hek_permute.proofs.moves.Moves.ahead.Given as goal

abbrev pub invariant-loop-at : goal.invariant-loop-at
invariant-loop-at l = ahead (shown_to l.self l.number l.history).acts l.place ≡ ahead (shown_to l.self l.number l.history).acts l.at

abbrev pub decreases-loop-at : goal.decreases-loop-at
decreases-loop-at l = 2 ^ 64 - l.at
