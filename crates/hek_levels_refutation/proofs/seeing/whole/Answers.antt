use Rattle.std.proofs.Common.{[], refl, sym, ap, ◌∙◌, inl}
use Rattle.hek_levels.specs.declared.rules.Rules.{Rules}
use Rattle.hek_levels_refutation.proofs.Refuting.{not_false}
use Rattle.hek_levels_refutation.proofs.seeing.whole.Goals as goal

pub returns : goal.returns
returns c e x hold = (
  c.if-not-takes_place.ensures refl c.args.context.now.asked.now e x hold,
  λ read there. ([], inl (ap (λ (r : Rules). r.whole) (sym c.of-rules.ensures) ∙ not_false c.of-rules.result.whole c.if-not-rules.false, c.in-Some.ensures c.args.context.now.asked.now c.args.context.now.log.now e hold)),
)
