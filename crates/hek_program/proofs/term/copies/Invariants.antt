use Rattle.std.proofs.Common.{length, ◌≡◌, ◌++◌}
use Rattle.hek_program.proofs.term.copies.Given as goal

abbrev pub invariant-loop-product : goal.invariant-loop-product
invariant-loop-product l = l.products ≡ l.copies.items ++ l.rest

abbrev pub decreases-loop-product : goal.decreases-loop-product
decreases-loop-product l = length l.rest
