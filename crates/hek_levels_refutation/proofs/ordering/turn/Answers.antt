use Rattle.std.proofs.Common.{refl, sym}
use Rattle.hek_levels_refutation.proofs.ordering.turn.Goals as goal

pub returns : goal.returns
returns c e x hold =
    x.turns c.args.x c.args.t (sym c.if-not-is_kept.ensures) (c.if-not-takes_place.ensures refl c.args.context.now.asked.now e x hold)
    (c.if-not-takes_place-2.ensures refl c.args.context.now.asked.now e x hold)
