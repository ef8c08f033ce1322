use Rattle.std.proofs.Common.{◌≡◌, length}
use Rattle.hek_history_levels.specs.Steps.{AreSeen}
use Rattle.hek_history_levels.proofs.step.all_seen.Given as goal

abbrev pub invariant-loop-t : goal.invariant-loop-t
invariant-loop-t l = record {
  count : length l.found.items ≡ l.t;
  seen : AreSeen l.turns l.history l.found.items;
}
