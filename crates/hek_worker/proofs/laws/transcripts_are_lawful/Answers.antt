use Rattle.hek_worker.proofs.Lawful.{lawful}
use Rattle.hek_worker.proofs.laws.transcripts_are_lawful.Goals as goal

pub returns : goal.returns
returns c = lawful
