use Rattle.hek_similar.proofs.Runs.{runs-alike}
use Rattle.hek_similar.proofs.similar_runs_answer_alike.Goals as goal

pub returns : goal.returns
returns c = runs-alike
