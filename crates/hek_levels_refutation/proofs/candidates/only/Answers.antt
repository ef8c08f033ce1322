use Rattle.std.proofs.Common.{refl, sym}
use Rattle.hek_levels_refutation.proofs.Refuting.{only_one}
use Rattle.hek_levels_refutation.proofs.candidates.only.Goals as goal

pub returns : goal.returns
returns c e x hold =
    let left = c.in-Some.ensures c.args.context.now.asked.now c.args.context.now.log.now e hold in (
      left.0,
      only_one c.args.context.now.asked.now c.args.context.now.log.now e x c.in-Some.left.reader c.in-Some.left.place c.in-Some-read_at.read c.in-Some.left.number c.in-Some.left.end c.writer_of.result c.writer_of.ensures
          left.0 (sym c.in-Some-read_at.ensures) left.1 (left.2 c.in-Some-read_at.read (sym c.in-Some-read_at.ensures)) (c.if-not-is_none_between.ensures refl),
    )
