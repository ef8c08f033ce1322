use Rattle.std.proofs.Common.{refl, ap, arith}
use Rattle.hek_levels.specs.Seen.{rank}
use Rattle.hek_levels_refutation.proofs.ordering.contra.Goals as goal

pub returns-then-is_same : goal.returns-then-is_same
returns-then-is_same c e x hold =
    let l = c.in-Some.ensures c.args.context.now.asked.now c.args.context.now.log.now e hold in
    let g = ap (rank e.order) (c.if-is_same.ensures.0 refl) in
    omega (arith, l, g)

pub returns : goal.returns
returns c e x hold =
    let l = c.in-Some.ensures c.args.context.now.asked.now c.args.context.now.log.now e hold in
    let g = ap (rank e.order) (c.if-not-is_same.ensures.0 refl) in
    omega (arith, l, g)
