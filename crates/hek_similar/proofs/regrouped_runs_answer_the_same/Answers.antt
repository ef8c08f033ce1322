use Rattle.hek_similar.proofs.Holdings.Laws.{runs-regrouped}
use Rattle.hek_similar.proofs.regrouped_runs_answer_the_same.Goals as goal

pub returns : goal.returns
returns c = runs-regrouped
