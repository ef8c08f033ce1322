use Rattle.std.proofs.Common.{◌∷◌, inr, subst}
use Rattle.hek_levels.specs.declared.rules.Rules.{Rules}
use Rattle.hek_levels.specs.Seen.{IsLinked}
use Rattle.hek_levels_refutation.proofs.seeing.shows_linked.Goals as goal

pub returns : goal.returns
returns c e x hold =
    let v = c.in-Some.ensures c.args.context.now.asked.now c.args.context.now.log.now e hold in (
      v.0,
      λ read there.
          let s = v.1 read there in (
            c.in-Some.met.transaction ∷ s.0,
            (inr (inr (subst (λ (r : Rules). IsLinked r.next c.args.context.now.log.now e c.in-Some.met.transaction c.in-Some-linked.x) c.of-rules.ensures (c.in-Some-linked.ensures e x hold))), s.1),
          ),
    )
