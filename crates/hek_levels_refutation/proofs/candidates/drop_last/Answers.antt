use Rattle.std.proofs.Common.{refl, arith}
use Rattle.hek_levels_refutation.proofs.Refuting.{dropped_back}
use Rattle.hek_levels_refutation.proofs.candidates.drop_last.Goals as goal

pub returns : goal.returns
returns c e x hold =
    let left = c.in-Some.ensures c.args.context.now.asked.now c.args.context.now.log.now e hold in (
      left.0,
      left.1,
      λ read there.
          dropped_back c.args.context.now.asked.now c.args.context.now.log.now e x c.in-Some.left.reader c.in-Some.left.place c.in-Some.left.end _ (omega arith) (left.2 read there)
          (λ is. c.if-not-is_not.ensures refl e hold left.0 is),
    )
