use Rattle.hek_worker.proofs.Lawful.{turns_of}
use Rattle.hek_worker.proofs.laws.waits_use_turns.Goals as goal

pub returns : goal.returns
returns c = turns_of
