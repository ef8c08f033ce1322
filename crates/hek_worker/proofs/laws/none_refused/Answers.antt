use Rattle.hek_worker.proofs.Transcripts.{none_refused}
use Rattle.hek_worker.proofs.laws.none_refused.Goals as goal

pub returns : goal.returns
returns c = none_refused
