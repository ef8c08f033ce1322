use Rattle.std.proofs.Common.{length, ◌≡◌}
use Rattle.hek_program.specs.Conditions.{all_hold}
use Rattle.hek_program.proofs.condition.Condition.holds.Given as goal

abbrev pub invariant-loop-comparison : goal.invariant-loop-comparison
invariant-loop-comparison g l = all_hold (g.L.Lookup.value_of l.lookup) l.self ≡ all_hold (g.L.Lookup.value_of l.lookup) l.rest

abbrev pub decreases-loop-comparison : goal.decreases-loop-comparison
decreases-loop-comparison g l = length l.rest
