use Rattle.std.proofs.Common.{refl}
use Rattle.hek_levels_refutation.proofs.Refuting.{not_numbered}
use Rattle.hek_levels_refutation.proofs.candidates.is_not.Goals as goal

pub returns : goal.returns
returns c yes' e hold o is =
    not_numbered e c.args.left.reader c.args.left.place c.in-Some.found.reader c.in-Some.found.place c.in-Some.found.writer c.writer_of.result c.args.number c.if-found-left.false
    (c.if-not-is_same_place.ensures.0 refl) (c.is_same.ensures.0 yes') c.writer_of.ensures (c.in-Some.ensures c.args.context.now.asked.now c.args.context.now.log.now e hold) o is
