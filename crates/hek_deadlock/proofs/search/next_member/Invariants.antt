use Rattle.std.proofs.Common.{◌≡◌, ℕ, ◌&&◌, None}
use Rattle.hek_rules.specs.Victim.{least}
use Rattle.hek_deadlock.specs.Rows.{waits_by_rows, level_at, is_level}
use Rattle.hek_deadlock.proofs.search.next_member.Given as goal

abbrev pub invariant-loop-y : goal.invariant-loop-y
invariant-loop-y l = least (λ (y : ℕ). waits_by_rows l.waiters l.x y && is_level (level_at l.levels y) l.level) l.y ≡ None
