use Rattle.std.proofs.Common.{refl, sym}
use Rattle.std.proofs.lemmas.Bool.{false≢true}
use Rattle.hek_levels_refutation.proofs.Refuting.{newest, same_source}
use Rattle.hek_levels_refutation.proofs.ordering.newest.Goals as goal

pub returns : goal.returns
returns c e x hold =
    let v = c.in-Some.ensures c.args.context.now.asked.now c.args.context.now.log.now e hold in
    let s = c.in-Some-source_at.ensures c.args.context.now.asked.now c.args.context.now.log.now e hold in
    newest c.args.context.now.asked.now c.args.context.now.log.now e x c.in-Some.met.reader c.in-Some.met.place c.in-Some-read_at.read c.in-Some.met.transaction c.in-Some-source_at.found.writer v.0
    (sym c.in-Some-read_at.ensures) (v.1 c.in-Some-read_at.read (sym c.in-Some-read_at.ensures)) (sym c.if-not-does_write.ensures)
    (same_source e c.in-Some.met.reader c.in-Some.met.place c.in-Some-source_at.found.reader c.in-Some-source_at.found.place c.in-Some-source_at.found.writer c.if-met-found.false
    (c.if-not-is_same_place.ensures.0 refl) s.1)
    (λ is. false≢true (c.if-is_same.ensures.1 is))
