use Rattle.hek_deadlock.proofs.Shown.{victim_is_shown}
use Rattle.hek_deadlock.proofs.WorldWalks.{victim_is_of_walks, none_is_of_walks}
use Rattle.hek_deadlock.proofs.laws.victim_is_that_of_the_world.Goals as goal

pub returns-clause-shown : goal.returns-clause-shown
returns-clause-shown c = victim_is_shown

pub returns-clause-found : goal.returns-clause-found
returns-clause-found c = victim_is_of_walks

pub returns-clause-none : goal.returns-clause-none
returns-clause-none c = none_is_of_walks
