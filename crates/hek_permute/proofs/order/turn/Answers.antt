use Rattle.hek_permute.proofs.Successors.{turned_next}
use Rattle.hek_permute.proofs.order.turn.Goals as goal

pub returns : goal.returns
returns c =
    turned_next c.args.order.now c.split_at_mut-front.result.0.now c.split_at_mut-front.result.1.now c.args.place
    c.last_above-other.result c.index-front-place.result c.index-tail-other.result c.reverse.new.self
    c.split_at_mut-front.ensures.value c.split_at_mut-front.ensures.front_len c.requires c.index-front-place.is
    c.index-tail-other.is c.last_above-other.ensures c.reverse.ensures.after
