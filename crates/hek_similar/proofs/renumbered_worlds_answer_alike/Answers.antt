use Rattle.hek_similar.proofs.Places.Runs.{worlds-renumbered}
use Rattle.hek_similar.proofs.renumbered_worlds_answer_alike.Goals as goal

pub returns : goal.returns
returns c = worlds-renumbered
