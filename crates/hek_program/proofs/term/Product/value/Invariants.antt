use Rattle.std.proofs.Common.{length, ◌≡◌}
use Rattle.hek_program.specs.Terms.{times_all}
use Rattle.hek_program.proofs.term.Product.value.Given as goal

abbrev pub invariant-loop-factor : goal.invariant-loop-factor
invariant-loop-factor g l = times_all (g.L.Lookup.value_of l.lookup) 1 l.self.factors ≡ times_all (g.L.Lookup.value_of l.lookup) l.product l.rest

abbrev pub decreases-loop-factor : goal.decreases-loop-factor
decreases-loop-factor g l = length l.rest
