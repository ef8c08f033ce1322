use Rattle.std.proofs.Common.{◌<◌, refl, sym, subst}
use Rattle.hek_levels.specs.declared.certificate.Writer.{Writer}
use Rattle.hek_levels.specs.Seen.{rank}
use Rattle.hek_levels_refutation.proofs.Refuting.{older}
use Rattle.hek_levels_refutation.proofs.ordering.not_older.Goals as goal

pub returns : goal.returns
returns c e x hold takes is =
    let v = c.in-Some.ensures c.args.context.now.asked.now c.args.context.now.log.now e hold in
    let l = c.in-Some-turn_at.ensures c.args.context.now.asked.now c.args.context.now.log.now e hold in
    older c.args.context.now.asked.now c.args.context.now.log.now e x c.in-Some.met.reader c.in-Some.met.place c.in-Some-read_at.read c.in-Some.met.transaction c.in-Some-turn_at.turn.first takes
    (sym c.in-Some-read_at.ensures) (v.1 c.in-Some-read_at.read (sym c.in-Some-read_at.ensures)) (sym c.if-not-does_write.ensures)
    (subst (λ (w : Writer). rank e.order c.in-Some-turn_at.turn.first < rank e.order w) (c.if-not-is_same.ensures.0 refl) l) is
