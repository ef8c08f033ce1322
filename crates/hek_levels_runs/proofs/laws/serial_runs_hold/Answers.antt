use Rattle.hek_levels_runs.proofs.Runs.{serial_runs_hold}
use Rattle.hek_levels_runs.proofs.laws.serial_runs_hold.Goals as goal

pub returns : goal.returns
returns c = serial_runs_hold
