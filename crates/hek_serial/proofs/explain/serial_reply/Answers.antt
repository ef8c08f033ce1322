use Rattle.std.proofs.Common.{◌∙◌, ap}
use Rattle.std.specs.Prelude.{slice_get}
use Rattle.hek_rules.specs.Recorded.{Recorded}
use Rattle.hek_serial.specs.Explained.{reply_at}
use Rattle.hek_serial.proofs.Whole.{whole}
use Rattle.hek_serial.proofs.explain.serial_reply.Goals as goal

pub returns : goal.returns
returns c =
    c.in_ok-reply.ensures
    ∙ ap (λ (s : Recorded). reply_at s c.args.place (slice_get s.history c.args.place))
    (whole c.args.transcript.now c.buckets.result c.rows.result.now c.levels.result.now c.events.result.now c.replies.result.now
    c.buckets.ensures.value c.rows.ensures c.levels.ensures c.events.ensures c.replies.ensures)
