use Rattle.hek_worker.proofs.Lawful.{order_of}
use Rattle.hek_worker.proofs.laws.reads_and_writes_in_order.Goals as goal

pub returns : goal.returns
returns c = order_of
