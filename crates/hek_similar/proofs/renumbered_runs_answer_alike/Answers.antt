use Rattle.hek_similar.proofs.Places.Runs.{runs-renumbered}
use Rattle.hek_similar.proofs.renumbered_runs_answer_alike.Goals as goal

pub returns : goal.returns
returns c = runs-renumbered
