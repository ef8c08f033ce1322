use Rattle.std.proofs.Common.{◌≤◌, refl, sym, subst}
use Rattle.hek_levels.specs.declared.certificate.Writer.{Writer}
use Rattle.hek_levels.specs.declared.rules.Rules.{Rules}
use Rattle.hek_levels.specs.Explanations.{explanation}
use Rattle.hek_levels.specs.Levels.{asked_of}
use Rattle.hek_levels.specs.Seen.{rank}
use Rattle.hek_levels.specs.Sweeps.{IsNewestFrom}
use Rattle.hek_levels.proofs.Judged.{newest_by_last, newest_by_sweep, if_ok}
use Rattle.hek_levels.proofs.newest.is_newest.Goals as goal

pub returns-then-not-is_written_since : goal.returns-then-not-is_written_since
returns-then-not-is_written_since c yes' =
    newest_by_last (asked_of c.args.asked.now c.args.t) c.args.log.now (explanation c.args.certificate.now) c.requires.ordered c.args.i c.args.t c.args.place c.in-Some.read _ c.low_of-low.result c.requires.last c.requires.stands
    (sym c.in-Some.ensures)
    (subst (λ (w : Writer). c.low_of-low.result ≤ rank c.args.certificate.now.order.items w) c.source_at.ensures (c.low_of-low.ensures c.args.log.now c.args.certificate.now.order.items c.requires.placing))
    (c.if-not-is_written_since.ensures refl)

pub returns : goal.returns
returns c =
    if_ok c.is_newest_from.result c.is_newest_from.ensures
    (λ yes' f true'.
    newest_by_sweep (asked_of c.args.asked.now c.args.t) c.args.log.now (explanation c.args.certificate.now) c.requires.ordered c.args.i c.args.t c.args.place c.in-Some.read c.low_of-low.result c.requires.stands
    (sym c.in-Some.ensures)
    (subst (λ (w : Writer). c.low_of-low.result ≤ rank c.args.certificate.now.order.items w) c.source_at.ensures (c.low_of-low.ensures c.args.log.now c.args.certificate.now.order.items c.requires.placing))
    (subst (λ (r : Rules). IsNewestFrom r c.args.log.now (explanation c.args.certificate.now) c.args.t c.in-Some.read.operation c.in-Some.read.key c.low_of-low.result) c.of.ensures (f true')))
