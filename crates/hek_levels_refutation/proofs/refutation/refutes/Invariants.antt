use Rattle.hek_levels_refutation.specs.Claims.{IsSound}
use Rattle.hek_levels_refutation.proofs.refutation.refutes.Given as goal

abbrev pub invariant-loop-n : goal.invariant-loop-n
invariant-loop-n l = IsSound l.asked l.log l.shown.items
