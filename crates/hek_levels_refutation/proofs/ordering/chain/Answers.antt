use Rattle.std.proofs.Common.{refl, ap, arith}
use Rattle.hek_levels.specs.Seen.{rank}
use Rattle.hek_levels_refutation.proofs.ordering.chain.Goals as goal

pub returns : goal.returns
returns c e x hold =
    let first = c.in-Some.ensures c.args.context.now.asked.now c.args.context.now.log.now e hold in
    let second = c.in-Some-turn_at.ensures c.args.context.now.asked.now c.args.context.now.log.now e hold in
    let same = ap (rank e.order) (c.if-not-is_same.ensures.0 refl) in
    omega (arith, first, second, same)
