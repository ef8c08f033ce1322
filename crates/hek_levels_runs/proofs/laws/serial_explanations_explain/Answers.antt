use Rattle.hek_levels_runs.proofs.Explained.{serial_explanations_explain}
use Rattle.hek_levels_runs.proofs.laws.serial_explanations_explain.Goals as goal

pub returns : goal.returns
returns c = serial_explanations_explain
