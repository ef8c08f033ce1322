use Rattle.hek_similar.proofs.Holdings.Laws.{rows-regrouped}
use Rattle.hek_similar.proofs.regrouped_worlds_have_same_rows.Goals as goal

pub returns : goal.returns
returns c = rows-regrouped
