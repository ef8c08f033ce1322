use Rattle.hek_laws.proofs.Runs.Reachable.{reachable-falls}
use Rattle.hek_laws.proofs.waits_fall_once_finished.Goals as goal

pub returns : goal.returns
returns c = reachable-falls
