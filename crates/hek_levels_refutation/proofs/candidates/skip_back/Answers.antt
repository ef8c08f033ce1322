use Rattle.std.proofs.Common.{refl, sym}
use Rattle.hek_levels_refutation.proofs.Refuting.{skipped_back}
use Rattle.hek_levels_refutation.proofs.candidates.skip_back.Goals as goal

pub returns : goal.returns
returns c e x hold =
    let left = c.in-Some.ensures c.args.context.now.asked.now c.args.context.now.log.now e hold in
    let below =
    skipped_back c.args.context.now.asked.now c.args.context.now.log.now e x c.in-Some.left.reader c.in-Some.left.place c.in-Some-read_at.read c.args.number c.in-Some.left.end left.0 (sym c.in-Some-read_at.ensures)
    (left.2 c.in-Some-read_at.read (sym c.in-Some-read_at.ensures)) (c.if-not-is_none_between.ensures refl) in
    (left.0, left.1, λ read there. below)
