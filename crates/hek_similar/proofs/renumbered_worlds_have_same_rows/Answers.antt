use Rattle.hek_similar.proofs.Places.Runs.{rows-renumbered}
use Rattle.hek_similar.proofs.renumbered_worlds_have_same_rows.Goals as goal

pub returns : goal.returns
returns c = rows-renumbered
