use Rattle.hek_rules.proofs.VictimLaw.{victim_is_found, none_is_right}
use Rattle.hek_rules.proofs.laws.victim_is_that_of_walks.Goals as goal

pub returns-clause-found : goal.returns-clause-found
returns-clause-found c = victim_is_found

pub returns-clause-none : goal.returns-clause-none
returns-clause-none c = none_is_right
