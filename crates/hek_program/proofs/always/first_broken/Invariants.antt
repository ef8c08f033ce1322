use Rattle.std.proofs.Common.{length, ◌≡◌}
use Rattle.hek_program.specs.Scripts.{first_broken}
use Rattle.hek_program.proofs.always.first_broken.Given as goal

abbrev pub invariant-loop-one : goal.invariant-loop-one
invariant-loop-one g l = first_broken (g.L.Lookup.value_of l.lookup) l.always ≡ first_broken (g.L.Lookup.value_of l.lookup) l.rest

abbrev pub decreases-loop-one : goal.decreases-loop-one
decreases-loop-one g l = length l.rest
