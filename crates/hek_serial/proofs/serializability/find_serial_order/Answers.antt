use Rattle.std.proofs.Common.{ℕ, List, subst}
use Rattle.std.specs.Option.{MatchOption}
use Rattle.hek_rules.specs.Recorded.{Recorded}
use Rattle.hek_serial.specs.SerialOrders.{IsSerialOrder}
use Rattle.hek_serial.proofs.Whole.{whole}
use Rattle.hek_serial.proofs.serializability.find_serial_order.Goals as goal

pub returns : goal.returns
returns c =
    subst (λ (s : Recorded). MatchOption c.in_ok-found.found ((order : List ℕ) → IsSerialOrder s order → ⊥) (λ order. IsSerialOrder s order.items))
    (whole c.args.transcript.now c.buckets.result c.rows.result.now c.levels.result.now c.events.result.now c.replies.result.now
    c.buckets.ensures.value c.rows.ensures c.levels.ensures c.events.ensures c.replies.ensures)
    c.in_ok-found.ensures
