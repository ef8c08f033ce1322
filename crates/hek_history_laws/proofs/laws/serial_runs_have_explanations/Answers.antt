use Rattle.hek_history_laws.proofs.Explained.{serial_runs_have_explanations}
use Rattle.hek_history_laws.proofs.laws.serial_runs_have_explanations.Goals as goal

pub returns : goal.returns
returns c = serial_runs_have_explanations
