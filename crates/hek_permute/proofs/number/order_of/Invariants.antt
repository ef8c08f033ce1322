use Rattle.std.proofs.Common.{◌-◌}
use Rattle.hek_permute.proofs.Counting.{HasBegun}
use Rattle.hek_permute.proofs.number.order_of.Given as goal

abbrev pub invariant-loop-done : goal.invariant-loop-done
invariant-loop-done l = HasBegun l.fn.counts.items l.fn.rank.number l.order.items l.counts.items (l.moves - l.done) l.rank.number l.rank.orders
