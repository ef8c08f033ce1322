use Rattle.std.proofs.Common.{[], refl, inr, subst}
use Rattle.hek_levels.specs.declared.rules.Rules.{Rules}
use Rattle.hek_levels.specs.Seen.{IsLinked}
use Rattle.hek_levels_refutation.proofs.seeing.by_link.Goals as goal

pub returns : goal.returns
returns c e x hold = (
  c.if-not-takes_place.ensures refl c.args.context.now.asked.now e x hold,
  λ read there. ([], inr (inr (subst (λ (r : Rules). IsLinked r.first c.args.context.now.log.now e c.args.t c.in-Some.x) c.of-rules.ensures (c.in-Some.ensures e x hold)))),
)
