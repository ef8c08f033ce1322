use Rattle.std.proofs.Common.{arith, ◌-◌, ◌+◌}
use Rattle.hek_permute.proofs.Counting.{one_further, is_over}
use Rattle.hek_permute.proofs.number.order_of.Goals as goal

pub loop-done-preserved : goal.loop-done-preserved
loop-done-preserved c =
    one_further c.args.counts.items c.args.rank.number c.loop-done.order.items c.push.new.self.items c.loop-done.counts.items c.as_slice.result.now
    (c.args.moves - c.loop-done.done) (c.args.moves - (c.loop-done.done + 1)) c.loop-done.rank.number c.loop-done.rank.orders c.first_move-place.result.0
    c.first_move-place.result.1.number c.first_move-place.result.1.orders c.index_mut.result.now c.new.result c.loop-done.invariant (omega arith)
    c.first_move-place.ensures c.as_slice.ensures.value c.index_mut.ensures.value c.new.ensures c.in_ok-push.ensures.items (omega arith)

pub returns : goal.returns
returns c =
    is_over c.args.counts.items c.args.rank.number c.loop-done.order.items c.loop-done.counts.items (c.args.moves - c.loop-done.done) c.loop-done.rank.number
    c.loop-done.rank.orders c.loop-done.invariant (omega arith)
