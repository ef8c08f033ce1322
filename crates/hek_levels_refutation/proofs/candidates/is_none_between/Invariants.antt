use Rattle.hek_levels_refutation.specs.Candidates.{IsNoneBetween}
use Rattle.hek_levels_refutation.proofs.candidates.is_none_between.Given as goal

abbrev pub invariant-loop-n : goal.invariant-loop-n
invariant-loop-n l = IsNoneBetween l.log l.t l.read l.from l.n
