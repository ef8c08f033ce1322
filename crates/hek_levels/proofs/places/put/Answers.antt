use Rattle.std.proofs.Common.{refl, sym}
use Rattle.hek_levels.proofs.Judged.{placing_more}
use Rattle.hek_levels.proofs.places.put.Goals as goal

pub returns : goal.returns
returns c yes' =
    placing_more c.args.log.now c.args.order.now c.args.i c.in-Some.t _ _ c.requires.known (sym c.in-Some.ensures) (sym c.if-not-is_possible.ensures)
    (c.if-not-is_absent.ensures.0 refl) c.in_ok-mark.ensures
