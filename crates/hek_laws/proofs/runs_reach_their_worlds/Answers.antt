use Rattle.hek_laws.proofs.Runs.Reachable.{opening-reachable, next-reachable}
use Rattle.hek_laws.proofs.runs_reach_their_worlds.Goals as goal

pub returns-clause-opening : goal.returns-clause-opening
returns-clause-opening c = opening-reachable

pub returns-clause-next : goal.returns-clause-next
returns-clause-next c = next-reachable
