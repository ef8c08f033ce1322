use Rattle.std.proofs.Common.{ℕ, ◌≡◌, ◌<◌, ◌||◌, ◌&&◌, length, get_or, List, slice_get, Some, subst, refl, arith}
use Rattle.std.specs.List.{All}
use Rattle.std.proofs.lemmas.Option.{slice_get_read}
use Rattle.std.proofs.lemmas.List.Elements.{All-nil}
use Rattle.hek_rules.specs.Listing.{is_among}
use Rattle.hek_deadlock.specs.Rows.{level_at, marked, is_unmarked}
use Rattle.hek_deadlock.proofs.Marks.{marked_by_none, none_reached, levels_reached, next_reached}
use Rattle.hek_deadlock.proofs.levels.level_after.Goals as goal

pub loop-y-init : goal.loop-y-init
loop-y-init c = record {
  levels = (λ x lt. marked_by_none c.args.waiters.now x c.args.level (level_at c.args.levels.now x));
  next = (λ x lt. none_reached c.args.waiters.now c.new-next.result.items x (level_at c.args.levels.now x) c.new-next.ensures.items);
  range = rw c.new-next.ensures.items (All-nil (λ y. y < length c.args.waiters.now));
}

pub loop-y-preserved : goal.loop-y-preserved
loop-y-preserved c =
    let y : ℕ = get_or c.args.frontier.now c.loop-y.y-index 0 in
    let within : y < length c.args.waiters.now = c.requires.frontier c.loop-y.y-index 0 c.loop-y-test.true in
    let row : slice_get c.args.waiters.now y ≡ Some c.index-waiters-y.result = slice_get_read c.args.waiters.now (length c.args.waiters.now) y c.index-waiters-y.result refl within c.index-waiters-y.is in
    let len : length c.loop-y.levels ≡ length c.args.waiters.now = omega arith in
    record {
      levels = (λ x lt.
          levels_reached c.args.waiters.now c.index-waiters-y.result c.args.frontier.now (level_at c.args.levels.now x) (level_at c.loop-y.levels x) (level_at c.mark.new.levels x) c.loop-y.y-index x c.args.level c.loop-y-test.true row (c.loop-y.invariant.levels x lt)
          (subst (λ (r : List ℕ). level_at c.mark.new.levels x ≡ marked (is_among r x) c.args.level (level_at c.loop-y.levels x)) c.deref.ensures.value (c.in_ok-mark.ensures.levels x (omega arith))));
      next = (λ x lt.
          next_reached c.args.waiters.now c.index-waiters-y.result c.args.frontier.now (level_at c.args.levels.now x) (level_at c.loop-y.levels x) (is_among c.loop-y.next.items x) (is_among c.mark.new.next.items x) c.loop-y.y-index x c.args.level c.loop-y-test.true row (c.loop-y.invariant.levels x lt) (c.loop-y.invariant.next x lt)
          (subst (λ (r : List ℕ). is_among c.mark.new.next.items x ≡ (is_among c.loop-y.next.items x || (is_among r x && is_unmarked (level_at c.loop-y.levels x)))) c.deref.ensures.value (c.in_ok-mark.ensures.next x (omega arith))));
      range = subst (λ (n : ℕ). All (λ x. x < n) c.loop-y.next.items → All (λ x. x < n) c.mark.new.next.items) len c.in_ok-mark.ensures.range c.loop-y.invariant.range;
    }
