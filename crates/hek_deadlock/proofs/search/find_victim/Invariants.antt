use Rattle.std.proofs.Common.{◌≡◌, ◌≤◌, length}
use Rattle.hek_rules.specs.Victim.{victim_of, victim_below}
use Rattle.hek_deadlock.specs.Rows.{waits_by_rows}
use Rattle.hek_deadlock.proofs.search.find_victim.Given as goal

abbrev pub invariant-loop-candidate : goal.invariant-loop-candidate
invariant-loop-candidate l = record {
  below : l.candidate ≤ length l.waiters;
  same : victim_of (waits_by_rows l.waiters) (length l.waiters) ≡ victim_below (waits_by_rows l.waiters) (length l.waiters) l.candidate;
}

abbrev pub decreases-loop-candidate : goal.decreases-loop-candidate
decreases-loop-candidate l = l.candidate
