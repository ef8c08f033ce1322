use Rattle.hek_levels_refutation.proofs.Refuting.{if_some, as_pair}
use Rattle.hek_levels_refutation.proofs.premises.pair_at.Goals as goal

pub returns : goal.returns
returns c =
    if_some c.pair_of.result c.pair_of.ensures
    (λ pair is rules log e hold. as_pair e c.in-Some.turn.first c.in-Some.turn.second pair.first pair.second is.0 is.1 (c.in-Some.ensures rules log e hold))
