use Rattle.std.proofs.Common.{subst}
use Rattle.hek_rules.specs.Recorded.{Recorded}
use Rattle.hek_rules.specs.Faults.{IsVerdict}
use Rattle.hek_serial.proofs.Whole.{whole}
use Rattle.hek_serial.proofs.verdict.check.Goals as goal

pub returns : goal.returns
returns c =
    subst (λ (s : Recorded). IsVerdict s c.in_ok-verdict.verdict)
    (whole c.args.transcript.now c.buckets.result c.rows.result.now c.levels.result.now c.events.result.now c.replies.result.now
    c.buckets.ensures.value c.rows.ensures c.levels.ensures c.events.ensures c.replies.ensures)
    c.in_ok-verdict.ensures
