use Rattle.hek_similar.proofs.Events.{worlds-alike}
use Rattle.hek_similar.proofs.similar_worlds_answer_alike.Goals as goal

pub returns : goal.returns
returns c = worlds-alike
