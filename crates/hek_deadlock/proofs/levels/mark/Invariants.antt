use Rattle.std.proofs.Common.{◌≡◌, ℕ, ◌<◌, ◌||◌, ◌&&◌, length, take}
use Rattle.std.specs.List.{All}
use Rattle.hek_rules.specs.Listing.{is_among}
use Rattle.hek_deadlock.specs.Rows.{level_at, marked, is_unmarked}
use Rattle.hek_deadlock.proofs.levels.mark.Given as goal

abbrev pub invariant-loop-x : goal.invariant-loop-x
invariant-loop-x l = record {
  levels : (x : ℕ) → x < length l.fn.levels → level_at l.levels x ≡ marked (is_among (take l.x-index l.row) x) l.level (level_at l.fn.levels x);
  next : (x : ℕ) → x < length l.fn.levels → is_among l.next.items x ≡ (is_among l.fn.next.items x || (is_among (take l.x-index l.row) x && is_unmarked (level_at l.fn.levels x)));
  range : All (λ x. x < length l.fn.levels) l.fn.next.items → All (λ x. x < length l.fn.levels) l.next.items;
}
