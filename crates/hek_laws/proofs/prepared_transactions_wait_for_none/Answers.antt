use Rattle.hek_laws.proofs.Sound.Named.{prepared-wait}
use Rattle.hek_laws.proofs.prepared_transactions_wait_for_none.Goals as goal

pub returns : goal.returns
returns c = prepared-wait
