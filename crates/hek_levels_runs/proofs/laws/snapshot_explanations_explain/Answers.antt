use Rattle.hek_levels_runs.proofs.Explained.{snapshot_explanations_explain}
use Rattle.hek_levels_runs.proofs.laws.snapshot_explanations_explain.Goals as goal

pub returns : goal.returns
returns c = snapshot_explanations_explain
