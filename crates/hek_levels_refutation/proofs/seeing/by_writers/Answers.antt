use Rattle.std.proofs.Common.{refl, sym, inl}
use Rattle.hek_levels_refutation.proofs.Refuting.{not_false}
use Rattle.hek_levels_refutation.proofs.seeing.by_writers.Goals as goal

pub returns : goal.returns
returns c e x hold =
    inl (
      not_false c.args.links.writers c.if-not-links.false,
      (c.args.key, sym c.if-not-does_write.ensures, sym c.if-not-does_write-2.ensures, c.if-not-is_before.ensures refl c.args.context.now.asked.now c.args.context.now.log.now e hold),
    )
