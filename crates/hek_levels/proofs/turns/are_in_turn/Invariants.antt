use Rattle.std.specs.HashMap.{get}
use Rattle.std.specs.Prelude.{◌==◌}
use Rattle.hek_levels.specs.Places.{AreInTurn, AreLatest}
use Rattle.hek_levels.proofs.turns.are_in_turn.Given as goal

abbrev pub invariant-loop-i : goal.invariant-loop-i
invariant-loop-i l = record {
  latest : AreLatest l.log l.order l.i (get ◌==◌ l.latest);
  before : AreInTurn l.log l.order l.i;
}
