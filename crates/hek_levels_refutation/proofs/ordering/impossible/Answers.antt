use Rattle.std.proofs.Common.{refl, sym}
use Rattle.std.proofs.lemmas.Bool.{both_ways}
use Rattle.hek_levels_refutation.proofs.ordering.impossible.Goals as goal

pub returns : goal.returns
returns c e x hold =
    let k = c.if-not-takes_place.ensures refl c.args.context.now.asked.now e x hold in
    both_ways _ (sym c.if-is_possible.ensures) (x.possible k.0 c.args.t k.1)
