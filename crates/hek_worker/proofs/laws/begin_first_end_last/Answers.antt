use Rattle.hek_worker.proofs.Lawful.{ends_of}
use Rattle.hek_worker.proofs.laws.begin_first_end_last.Goals as goal

pub returns : goal.returns
returns c = ends_of
