use Rattle.std.specs.HashMap.{get}
use Rattle.std.specs.Prelude.{◌==◌}
use Rattle.hek_levels.specs.Places.{IsPlacing}
use Rattle.hek_levels.proofs.places.find_places.Given as goal

abbrev pub invariant-loop-i : goal.invariant-loop-i
invariant-loop-i l = IsPlacing l.log l.order l.i (get ◌==◌ l.places)
