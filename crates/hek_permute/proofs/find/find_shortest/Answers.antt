use Rattle.std.proofs.Common.{◌+◌, sym}
use Rattle.hek_permute.proofs.Searches.{none-more, none-found}
use Rattle.hek_permute.proofs.find.find_shortest.Goals as goal

pub loop-less-preserved : goal.loop-less-preserved
loop-less-preserved g c =
    none-more c.args.schedule.now c.args.form c.args.moves.now c.args.sought.now c.loop-less.less c.loop-less.invariant
    (none-found c.args.schedule.now c.args.form c.args.moves.now c.args.sought.now (c.loop-less.less + 1) c.in_ok-found.found (sym c.if-is_some.ensures) c.in_ok-found.ensures)
