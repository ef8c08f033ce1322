use Rattle.std.proofs.Common.{length, ◌≡◌}
use Rattle.hek_program.specs.Told.{value_at}
use Rattle.hek_program.proofs.told.value_at.Given as goal

abbrev pub invariant-loop-row : goal.invariant-loop-row
invariant-loop-row l = value_at l.key l.rows ≡ value_at l.key l.rest

abbrev pub decreases-loop-row : goal.decreases-loop-row
decreases-loop-row l = length l.rest
