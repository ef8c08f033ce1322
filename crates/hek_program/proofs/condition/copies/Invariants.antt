use Rattle.std.proofs.Common.{length, ◌≡◌, ◌++◌}
use Rattle.hek_program.proofs.condition.copies.Given as goal

abbrev pub invariant-loop-comparison : goal.invariant-loop-comparison
invariant-loop-comparison l = l.comparisons ≡ l.copies.items ++ l.rest

abbrev pub decreases-loop-comparison : goal.decreases-loop-comparison
decreases-loop-comparison l = length l.rest
