use Rattle.std.proofs.Common.{ℕ, ◌∷◌, inl, inr, sym, ap, ◌∙◌, subst}
use Rattle.hek_levels.specs.declared.rules.Rules.{Rules}
use Rattle.hek_levels.specs.Seen.{ReadsFrom}
use Rattle.hek_levels_refutation.proofs.Refuting.{not_false}
use Rattle.hek_levels_refutation.proofs.seeing.shows.Goals as goal

pub returns : goal.returns
returns c e x hold =
    let v = c.in-Some.ensures c.args.context.now.asked.now c.args.context.now.log.now e hold in
    let edge = c.in-Some-edge_at.ensures c.args.context.now.asked.now e hold in (
      v.0,
      λ read there.
          let s = v.1 read there in (
            c.in-Some.met.transaction ∷ s.0,
            (
              inr
                  (inl (
                    ap (λ (r : Rules). r.causes) (sym c.of-rules.ensures) ∙ not_false c.of-rules.result.causes c.if-not-rules.false,
                    subst (λ (n : ℕ). ReadsFrom c.args.context.now.log.now e n c.in-Some-edge_at.edge.transaction) c.if-edge-met.false edge.1,
                  )),
              s.1,
            ),
          ),
    )
