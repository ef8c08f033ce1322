use Rattle.std.proofs.Common.{subst, IfOk}
use Rattle.hek_rules.specs.Recorded.{Recorded}
use Rattle.hek_serial.specs.SerialOrders.{IsSerializability}
use Rattle.hek_permute.proofs.outcome.verdict_of.Goals as goal

pub returns : goal.returns
returns c =
    subst (λ (s : Recorded). IfOk c.serializability_of.result (λ verdict. IsSerializability s verdict)) c.in_ok-told.ensures c.serializability_of.ensures
