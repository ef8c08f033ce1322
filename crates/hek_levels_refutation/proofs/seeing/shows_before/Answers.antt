use Rattle.std.proofs.Common.{ℕ, ◌∷◌, inl, sym, ap, ◌∙◌, subst}
use Rattle.hek_levels.specs.declared.rules.Rules.{Rules}
use Rattle.hek_levels.specs.Seen.{IsBefore}
use Rattle.hek_levels_refutation.proofs.Refuting.{not_false}
use Rattle.hek_levels_refutation.proofs.seeing.shows_before.Goals as goal

pub returns : goal.returns
returns c e x hold =
    let v = c.in-Some.ensures c.args.context.now.asked.now c.args.context.now.log.now e hold in
    let before = c.in-Some-pair_at.ensures c.args.context.now.asked.now c.args.context.now.log.now e hold in (
      v.0,
      λ read there.
          let s = v.1 read there in (
            c.in-Some.met.transaction ∷ s.0,
            (
              inl (ap (λ (r : Rules). r.prefix) (sym c.of-rules.ensures) ∙ not_false c.of-rules.result.prefix c.if-not-rules.false, subst (λ (n : ℕ). IsBefore e c.in-Some-pair_at.pair.first n) c.if-pair-met.false before),
              s.1,
            ),
          ),
    )
