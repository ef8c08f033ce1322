use Rattle.std.proofs.Common.{length, ◌≡◌}
use Rattle.hek_program.specs.Terms.{plus_all, sum_of}
use Rattle.hek_program.proofs.term.Amount.sum.Given as goal

abbrev pub invariant-loop-product : goal.invariant-loop-product
invariant-loop-product g l = sum_of (g.L.Lookup.value_of l.lookup) l.self ≡ plus_all (g.L.Lookup.value_of l.lookup) l.sum l.rest

abbrev pub decreases-loop-product : goal.decreases-loop-product
decreases-loop-product g l = length l.rest
