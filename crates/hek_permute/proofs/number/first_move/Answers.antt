use Rattle.std.proofs.Common.{arith, refl}
use Rattle.std.specs.Prelude.{slice_index}
use Rattle.hek_permute.proofs.Counting.{begins, passes, at_most_all}
use Rattle.hek_permute.proofs.number.first_move.Goals as goal

pub share-orders-requires-clause-part : goal.share-orders-requires-clause-part
share-orders-requires-clause-part c = omega (arith, at_most_all c.args.counts.now c.loop-place.place, c.requires.is_count.moves_are)

pub returns-then-number-orders : goal.returns-then-number-orders
returns-then-number-orders c =
    begins c.args.counts.now c.args.rank.number c.loop-place.place (slice_index c.args.counts.now c.loop-place.place) c.args.moves c.args.rank.orders c.loop-place.number
    c.share-orders.result c.requires.is_count c.requires.some refl c.share-orders.ensures c.loop-place.invariant c.if-number-orders.true

pub loop-place-preserved : goal.loop-place-preserved
loop-place-preserved c =
    passes c.args.counts.now c.args.rank.number c.loop-place.place (slice_index c.args.counts.now c.loop-place.place) c.args.moves c.args.rank.orders c.loop-place.number
    c.share-orders.result c.requires.is_count c.requires.some refl c.share-orders.ensures c.loop-place.invariant c.if-number-orders.false
