use Rattle.hek_similar.proofs.Places.Alike.{alike-worlds}
use Rattle.hek_similar.proofs.alike_worlds_answer_alike.Goals as goal

pub returns : goal.returns
returns c = alike-worlds
