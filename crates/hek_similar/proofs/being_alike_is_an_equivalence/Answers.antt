use Rattle.hek_similar.proofs.Places.Alike.{alike-itself, alike-both_ways, alike-in_turn}
use Rattle.hek_similar.proofs.being_alike_is_an_equivalence.Goals as goal

pub returns-clause-itself : goal.returns-clause-itself
returns-clause-itself c = alike-itself

pub returns-clause-both_ways : goal.returns-clause-both_ways
returns-clause-both_ways c = alike-both_ways

pub returns-clause-in_turn : goal.returns-clause-in_turn
returns-clause-in_turn c = alike-in_turn
