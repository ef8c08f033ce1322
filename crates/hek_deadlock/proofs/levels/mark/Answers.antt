use Rattle.std.proofs.Common.{ℕ, ◌≡◌, ◌<◌, length, get_or, [], ◌∷◌, ◌++◌, Vec, Global, ap, ◌∙◌, Some, None, refl, arith}
use Rattle.std.proofs.lemmas.List.Elements.{All-push}
use Rattle.hek_deadlock.specs.Rows.{level_at}
use Rattle.hek_deadlock.proofs.Marks.{levels_unmarked, levels_marked, next_unmarked, next_marked, none_from, some_from}
use Rattle.hek_deadlock.proofs.levels.mark.Goals as goal
use Rattle.hek_deadlock.proofs.levels.mark.Goals.{then-is_none+in_ok-push, else-is_none}

pub loop-x-preserved : goal.loop-x-preserved
loop-x-preserved c =
    let y : ℕ = get_or c.args.row.now c.loop-x.x-index 0 in
    let within : y < length c.args.levels.now = c.requires c.loop-x.x-index 0 c.loop-x-test.true in
    let here : y < length c.loop-x.levels = omega arith in
    elim c.if-is_none.branch [
      | then-is_none+in_ok-push w ↦
          let none : level_at c.loop-x.levels y ≡ None = none_from (level_at c.loop-x.levels y) c.is_none.result c.is_none.ensures w.if-is_none.true in
          let items : c.if-is_none.next.items ≡ c.loop-x.next.items ++ y ∷ [] = ap (λ (v : Vec ℕ Global). v.items) w.next-is ∙ w.in_ok-push.ensures.items in
          record {
            levels = (λ x lt. rw w.levels-is (levels_unmarked c.args.row.now c.args.levels.now c.loop-x.levels c.loop-x.x-index y x c.args.level c.loop-x-test.true refl here none (c.loop-x.invariant.levels x lt)));
            next = (λ x lt. rw items (next_unmarked c.args.row.now c.args.next.now.items c.loop-x.next.items c.args.levels.now c.loop-x.levels c.loop-x.x-index y x c.args.level c.loop-x-test.true refl none (c.loop-x.invariant.levels y within) (c.loop-x.invariant.next x lt)));
            range = (λ h. rw items (All-push (λ x. x < length c.args.levels.now) c.loop-x.next.items y (c.loop-x.invariant.range h) within));
          }
      | else-is_none w ↦
          let some : (m : ℕ) × (level_at c.loop-x.levels y ≡ Some m) = some_from (level_at c.loop-x.levels y) c.is_none.result c.is_none.ensures w.if-is_none.false in
          record {
            levels = (λ x lt. rw w.levels-is (levels_marked c.args.row.now c.args.levels.now c.loop-x.levels c.loop-x.x-index y x some.0 c.args.level c.loop-x-test.true refl some.1 (c.loop-x.invariant.levels x lt)));
            next = (λ x lt. rw w.next-is (next_marked c.args.row.now c.args.next.now.items c.loop-x.next.items c.args.levels.now c.loop-x.levels c.loop-x.x-index y x some.0 c.args.level c.loop-x-test.true refl some.1 (c.loop-x.invariant.levels y within) (c.loop-x.invariant.next x lt)));
            range = (λ h. rw w.next-is (c.loop-x.invariant.range h));
          }
    ]
