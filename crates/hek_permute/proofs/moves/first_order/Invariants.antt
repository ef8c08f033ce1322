use Rattle.std.proofs.Common.{length, ◌≡◌, ◌+◌, ◌++◌}
use Rattle.hek_permute.specs.Moves.{first_order_from, counts_of}
use Rattle.hek_permute.proofs.moves.first_order.Given as goal

abbrev pub invariant-loop-first : goal.invariant-loop-first
invariant-loop-first l =
    (l.number + length l.rest ≡ 1 + length l.moves)
    × (l.order.items ++ first_order_from l.number (counts_of l.form l.rest) ≡ first_order_from 1 (counts_of l.form l.moves))

abbrev pub decreases-loop-first : goal.decreases-loop-first
decreases-loop-first l = length l.rest
