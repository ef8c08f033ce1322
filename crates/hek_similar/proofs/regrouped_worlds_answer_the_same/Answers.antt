use Rattle.hek_similar.proofs.Holdings.Laws.{worlds-regrouped}
use Rattle.hek_similar.proofs.regrouped_worlds_answer_the_same.Goals as goal

pub returns : goal.returns
returns c = worlds-regrouped
