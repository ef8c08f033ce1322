use Rattle.std.proofs.Common.{sym, subst}
use Rattle.hek_levels_refutation.specs.Claims.{IsSound}
use Rattle.hek_levels_refutation.proofs.Boxes.{IsSound-none}
use Rattle.hek_levels_refutation.proofs.refutation.refutes.Goals as goal

pub loop-n-init : goal.loop-n-init
loop-n-init c = subst (IsSound c.args.asked.now c.args.log.now) (sym c.new-shown.ensures.items) (IsSound-none c.args.asked.now c.args.log.now)
