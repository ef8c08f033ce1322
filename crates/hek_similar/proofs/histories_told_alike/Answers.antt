use Rattle.hek_similar.proofs.Places.Told.{told-go_on_alike}
use Rattle.hek_similar.proofs.Told.{told-judged, told-go_on}
use Rattle.hek_similar.proofs.histories_told_alike.Goals as goal

pub returns-clause-judged : goal.returns-clause-judged
returns-clause-judged c = told-judged

pub returns-clause-go_on : goal.returns-clause-go_on
returns-clause-go_on c = told-go_on

pub returns-clause-go_on_in_alike_worlds : goal.returns-clause-go_on_in_alike_worlds
returns-clause-go_on_in_alike_worlds c = told-go_on_alike
