use Rattle.std.proofs.Common.{refl, ap}
use Rattle.std.proofs.Common.{arith}
use Rattle.hek_levels.specs.Seen.{rank}
use Rattle.hek_levels_refutation.proofs.premises.is_before.Goals as goal

pub returns : goal.returns
returns c yes' rules log e hold =
    let l = c.in-Some.ensures rules log e hold in
    let a = ap (rank e.order) (c.if-not-is_same.ensures.0 refl) in
    let b = ap (rank e.order) (c.is_same-2.ensures.0 yes') in
    omega (arith, l, a, b)
