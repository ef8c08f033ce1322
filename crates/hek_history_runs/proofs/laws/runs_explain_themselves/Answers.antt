use Rattle.hek_history_runs.proofs.AllRuns.{runs_explain_themselves}
use Rattle.hek_history_runs.proofs.laws.runs_explain_themselves.Goals as goal

pub returns : goal.returns
returns c = runs_explain_themselves
