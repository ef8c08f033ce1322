use Rattle.std.proofs.Common.{refl}
use Rattle.hek_levels.proofs.Orders.{takes}
use Rattle.hek_levels_refutation.proofs.ordering.inside.Goals as goal

pub returns : goal.returns
returns c e x hold =
    takes e c.in-Some.pair.first c.in-Some.pair.second (c.in-Some.ensures c.args.context.now.asked.now c.args.context.now.log.now e hold) (c.if-not-takes_place.ensures refl c.args.context.now.asked.now e x hold)
