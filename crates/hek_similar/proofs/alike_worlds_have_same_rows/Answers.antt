use Rattle.hek_similar.proofs.Places.Alike.{alike-rows}
use Rattle.hek_similar.proofs.alike_worlds_have_same_rows.Goals as goal

pub returns : goal.returns
returns c = alike-rows
