use Rattle.std.proofs.Common.{refl}
use Rattle.hek_levels_refutation.proofs.Refuting.{dropped}
use Rattle.hek_levels_refutation.proofs.candidates.drop_first.Goals as goal

pub returns : goal.returns
returns c e x hold =
    let left = c.in-Some.ensures c.args.context.now.asked.now c.args.context.now.log.now e hold in (
      left.0,
      dropped c.args.context.now.asked.now c.args.context.now.log.now e x c.in-Some.left.reader c.in-Some.left.place c.in-Some.left.number left.1 (λ is. c.if-not-is_not.ensures refl e hold left.0 is),
      left.2,
    )
