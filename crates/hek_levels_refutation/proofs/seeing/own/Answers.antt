use Rattle.std.proofs.Common.{◌∙◌, [], refl, inl, inr}
use Rattle.hek_levels_refutation.proofs.seeing.own.Goals as goal

pub returns : goal.returns
returns c e x hold =
    let s = c.in-Some.ensures c.args.context.now.asked.now c.args.context.now.log.now e hold in (
      s.0,
      λ read there. ([], inr (inl (c.if-not-shows_own.ensures refl e c.in-Transaction.x (s.1 ∙ c.in-Transaction.is) read there))),
    )
