use Rattle.hek_history_runs.proofs.FirstCommitters.{first_committers_win}
use Rattle.hek_history_runs.proofs.laws.first_committers_win.Goals as goal

pub returns : goal.returns
returns c = first_committers_win
