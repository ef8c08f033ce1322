use Rattle.std.proofs.Common.{sym, ap, arith}
use Rattle.hek_levels.specs.Seen.{rank}
use Rattle.hek_levels_refutation.proofs.Refuting.{read-before}
use Rattle.hek_levels_refutation.proofs.ordering.not_later.Goals as goal

pub returns : goal.returns
returns c e x hold takes is =
    let l = c.in-Some.ensures c.args.context.now.asked.now c.args.context.now.log.now e hold in
    let b =
    read-before c.args.context.now.asked.now c.args.context.now.log.now e x c.in-Transaction.t c.args.place c.in-Some-read_at._read c.in-Some.turn.second takes (sym c.in-Some-read_at.ensures) is in
    let f = ap (rank e.order) c.in-Transaction.is in
    omega (arith, l, b, f)
