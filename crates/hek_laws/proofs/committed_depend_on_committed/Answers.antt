use Rattle.hek_laws.proofs.Runs.Committers.{depend-on-committed}
use Rattle.hek_laws.proofs.committed_depend_on_committed.Goals as goal

pub returns : goal.returns
returns c = depend-on-committed
