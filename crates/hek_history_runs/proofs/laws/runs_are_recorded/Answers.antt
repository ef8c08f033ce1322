use Rattle.hek_history_runs.proofs.Recordable.{runs_are_recorded}
use Rattle.hek_history_runs.proofs.laws.runs_are_recorded.Goals as goal

pub returns : goal.returns
returns c = runs_are_recorded
