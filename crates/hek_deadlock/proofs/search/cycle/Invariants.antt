use Rattle.std.proofs.Common.{◌≡◌, ◌<◌, ◌++◌, ◌∷◌, Some, length}
use Rattle.hek_rules.specs.Victim.{between}
use Rattle.hek_deadlock.specs.Rows.{waits_by_rows, level_at}
use Rattle.hek_deadlock.proofs.search.cycle.Given as goal

abbrev pub invariant-loop-left : goal.invariant-loop-left
invariant-loop-left l = record {
  rest : l.members.items ++ between (waits_by_rows l.waiters) (length l.waiters) l.left l.x l.victim ≡ l.victim ∷ between (waits_by_rows l.waiters) (length l.waiters) l.count l.victim l.victim;
  within : l.x < length l.waiters;
  level : level_at l.levels l.x ≡ Some l.left;
}

abbrev pub decreases-loop-left : goal.decreases-loop-left
decreases-loop-left l = l.left
