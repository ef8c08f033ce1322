use Rattle.hek_history_levels.specs.Taking.{IsTaken}
use Rattle.hek_history_levels.proofs.transaction.taken_of.Given as goal

abbrev pub invariant-loop-n : goal.invariant-loop-n
invariant-loop-n l = IsTaken l.lenient l.operations l.n l.taken
