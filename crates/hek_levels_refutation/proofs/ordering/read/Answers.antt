use Rattle.std.proofs.Common.{sym}
use Rattle.hek_levels_refutation.proofs.Refuting.{read-before}
use Rattle.hek_levels_refutation.proofs.ordering.read.Goals as goal

pub returns : goal.returns
returns c e x hold =
    let s = c.in-Some.ensures c.args.context.now.asked.now c.args.context.now.log.now e hold in
    read-before c.args.context.now.asked.now c.args.context.now.log.now e x c.in-Some.found.reader c.in-Some.found.place _ c.in-Some.found.writer s.0 (sym c.in-Some-read_at.ensures) s.1
