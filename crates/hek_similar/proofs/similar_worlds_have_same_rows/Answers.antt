use Rattle.hek_similar.proofs.Runs.{same-rows}
use Rattle.hek_similar.proofs.similar_worlds_have_same_rows.Goals as goal

pub returns : goal.returns
returns c = same-rows
