use Rattle.hek_laws.proofs.Runs.NoFault.{run-no_fault}
use Rattle.hek_laws.proofs.no_run_has_faults.Goals as goal

pub returns : goal.returns
returns c = run-no_fault
