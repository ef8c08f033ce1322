use Rattle.hek_similar.proofs.Forms.{similar-itself, similar-both_ways, similar-in_turn}
use Rattle.hek_similar.proofs.similarity_is_an_equivalence.Goals as goal

pub returns-clause-itself : goal.returns-clause-itself
returns-clause-itself c = similar-itself

pub returns-clause-both_ways : goal.returns-clause-both_ways
returns-clause-both_ways c = similar-both_ways

pub returns-clause-in_turn : goal.returns-clause-in_turn
returns-clause-in_turn c = similar-in_turn
