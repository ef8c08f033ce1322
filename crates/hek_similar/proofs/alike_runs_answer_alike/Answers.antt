use Rattle.hek_similar.proofs.Places.Alike.{alike-runs}
use Rattle.hek_similar.proofs.alike_runs_answer_alike.Goals as goal

pub returns : goal.returns
returns c = alike-runs
