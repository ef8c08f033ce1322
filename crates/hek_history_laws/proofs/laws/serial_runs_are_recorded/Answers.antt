use Rattle.hek_history_laws.proofs.Recordable.{serial_runs_are_recorded}
use Rattle.hek_history_laws.proofs.laws.serial_runs_are_recorded.Goals as goal

pub returns : goal.returns
returns c = serial_runs_are_recorded
