use Rattle.hek_worker.proofs.Lawful.{full_where_committed}
use Rattle.hek_worker.proofs.laws.committed_where_full.Goals as goal

pub returns : goal.returns
returns c = full_where_committed
