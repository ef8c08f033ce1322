use Rattle.std.proofs.Common.{sym}
use Rattle.hek_levels_refutation.proofs.seeing.precedes.Goals as goal

pub returns : goal.returns
returns c yes' e hold = (sym c.if-not-is_earlier.ensures, c.is_before.ensures yes' c.args.context.now.asked.now c.args.context.now.log.now e hold)
