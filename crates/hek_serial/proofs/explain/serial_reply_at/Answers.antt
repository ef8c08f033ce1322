use Rattle.std.proofs.Common.{◌≡◌, ◌∙◌, ap, map}
use Rattle.std.specs.Prelude.{slice_get}
use Rattle.hek_rules.specs.Recorded.{Recorded}
use Rattle.hek_serial.specs.Explained.{reply_at}
use Rattle.hek_serial.specs.Leveled.{at_level}
use Rattle.hek_serial.proofs.Whole.{whole}
use Rattle.hek_serial.proofs.explain.serial_reply_at.Goals as goal

pub returns : goal.returns
returns c =
    let told : Recorded = at_level c.args.level c.args.transcript.now in
    let levels : c.as_slice.result.now ≡ map (λ _. c.args.level) c.args.transcript.now.levels = c.as_slice.ensures.value ∙ c.in_ok-levels.ensures in
    c.in_ok-reply.ensures
    ∙ ap (λ (s : Recorded). reply_at s c.args.place (slice_get s.history c.args.place))
    (whole told c.buckets.result c.rows.result.now c.as_slice.result.now c.events.result.now c.replies.result.now
    c.buckets.ensures.value c.rows.ensures levels c.events.ensures c.replies.ensures)
