use Rattle.std.proofs.Common.{◌≡◌, ℕ, ◌<◌, length, vec_len}
use Rattle.std.specs.List.{All}
use Rattle.hek_rules.specs.Victim.{fewest}
use Rattle.hek_deadlock.specs.Rows.{waits_by_rows, level_at}
use Rattle.hek_deadlock.proofs.Ready.{IsReady}
use Rattle.hek_deadlock.proofs.levels.levels_to.Given as goal

abbrev pub invariant-loop-level : goal.invariant-loop-level
invariant-loop-level l = record {
  long : vec_len l.levels ≡ length l.waiters;
  levels : (x : ℕ) → x < length l.waiters → level_at l.levels.items x ≡ fewest (waits_by_rows l.waiters) (length l.waiters) l.target l.level x;
  ready : IsReady l.waiters l.target l.level l.frontier.items;
  range : All (λ y. y < length l.waiters) l.frontier.items;
}
