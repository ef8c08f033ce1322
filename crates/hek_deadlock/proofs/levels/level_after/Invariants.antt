use Rattle.std.proofs.Common.{◌≡◌, ℕ, ◌<◌, ◌&&◌, length, take}
use Rattle.std.specs.List.{All}
use Rattle.hek_rules.specs.Listing.{is_among}
use Rattle.hek_deadlock.specs.Rows.{level_at, marked, is_unmarked, reaches}
use Rattle.hek_deadlock.proofs.levels.level_after.Given as goal

abbrev pub invariant-loop-y : goal.invariant-loop-y
invariant-loop-y l = record {
  levels : (x : ℕ) → x < length l.waiters → level_at l.levels x ≡ marked (reaches l.waiters (take l.y-index l.frontier) x) l.level (level_at l.fn.levels x);
  next : (x : ℕ) → x < length l.waiters → is_among l.next.items x ≡ (reaches l.waiters (take l.y-index l.frontier) x && is_unmarked (level_at l.fn.levels x));
  range : All (λ y. y < length l.waiters) l.next.items;
}
