use Rattle.std.proofs.Common.{ℕ, ◌≡◌, ◌<◌, ◌≤◌, ◌&&◌, length, vec_len, List, [], ◌∷◌, Vec, Global, Option, sym, ap, ◌∙◌, subst, refl, arith, eqb-true}
use Rattle.std.proofs.lemmas.List.{with_items_is}
use Rattle.std.proofs.lemmas.List.Elements.{All-nil, All-cons}
use Rattle.hek_rules.specs.Victim.{fewest}
use Rattle.hek_rules.specs.Listing.{is_among}
use Rattle.hek_deadlock.specs.Rows.{waits_by_rows, level_at, marked, is_unmarked, reaches}
use Rattle.hek_deadlock.proofs.Ready.{IsReady, IsNext, fewest-zero, ready_first, ready_next, levels_next, levels_stay}
use Rattle.hek_deadlock.proofs.levels.levels_to.Goals as goal

pub loop-level-init : goal.loop-level-init
loop-level-init c = record {
  long = c.in_ok-levels.ensures.length;
  levels = (λ x lt. c.in_ok-levels.ensures.none x ∙ sym (fewest-zero (waits_by_rows c.args.waiters.now) (length c.args.waiters.now) c.args.target x));
  ready = subst (λ (xs : List ℕ). IsReady c.args.waiters.now c.args.target 0 xs) (sym c.in_ok-frontier.ensures.items) (ready_first c.args.waiters.now c.args.target);
  range = rw c.in_ok-frontier.ensures.items (All-cons (λ y. y < length c.args.waiters.now) c.args.target [] c.requires.target (All-nil (λ y. y < length c.args.waiters.now)));
}

pub level_after-requires-clause-frontier : goal.level_after-requires-clause-frontier
level_after-requires-clause-frontier c = rw c.deref.ensures.value c.loop-level.invariant.range

pub loop-level-preserved : goal.loop-level-preserved
loop-level-preserved c =
    let rows : List (Vec ℕ Global) = c.args.waiters.now in
    let long : length c.level_after.new.levels ≡ c.loop-level.levels.len = omega arith in
    let is_next : IsNext rows c.args.target c.loop-level.level c.loop-level.frontier.items c.in_ok-frontier-2.frontier.items =
    λ x lt.
    subst (λ (ys : List ℕ). is_among c.in_ok-frontier-2.frontier.items x ≡ (reaches rows ys x && is_unmarked (level_at c.loop-level.levels.items x))) c.deref.ensures.value
    (subst (λ (os : List (Option ℕ)). is_among c.in_ok-frontier-2.frontier.items x ≡ (reaches rows c.deref.result.now x && is_unmarked (level_at os x))) c.deref_mut.ensures.value (c.in_ok-frontier-2.ensures.next x lt))
    ∙ ap (λ (o : Option ℕ). reaches rows c.loop-level.frontier.items x && is_unmarked o) (c.loop-level.invariant.levels x lt) in
    record {
      long = c.loop-level.invariant.long;
      levels = (λ x lt.
          ap (λ (xs : List (Option ℕ)). level_at xs x) (with_items_is c.loop-level.levels c.level_after.new.levels long)
          ∙ levels_next rows c.args.target c.loop-level.level c.loop-level.frontier.items (level_at c.loop-level.levels.items x) (level_at c.level_after.new.levels x) (c.loop-level.invariant.ready) x lt (c.loop-level.invariant.levels x lt)
          (subst (λ (ys : List ℕ). level_at c.level_after.new.levels x ≡ marked (reaches rows ys x) c.loop-level.level (level_at c.loop-level.levels.items x)) c.deref.ensures.value
          (subst (λ (os : List (Option ℕ)). level_at c.level_after.new.levels x ≡ marked (reaches rows c.deref.result.now x) c.loop-level.level (level_at os x)) c.deref_mut.ensures.value (c.in_ok-frontier-2.ensures.levels x lt))));
      ready = ready_next rows c.args.target c.loop-level.level c.loop-level.frontier.items c.in_ok-frontier-2.frontier.items c.loop-level.invariant.ready is_next c.in_ok-frontier-2.ensures.range;
      range = c.in_ok-frontier-2.ensures.range;
    }

pub returns : goal.returns
returns c =
    let end : c.loop-level.level ≡ length c.args.waiters.now = omega arith in
    record {
      long = (let long : vec_len c.loop-level.levels ≡ length c.args.waiters.now = c.loop-level.invariant.long in omega arith);
      least = subst (λ (k : ℕ). (x : ℕ) → x < length c.args.waiters.now → level_at c.loop-level.levels.items x ≡ fewest (waits_by_rows c.args.waiters.now) (length c.args.waiters.now) c.args.target k x) end c.loop-level.invariant.levels;
    }

nil_of : (xs : List ℕ) → length xs ≡ 0 → xs ≡ []
nil_of [] e = refl
nil_of (x ∷ xs) e = absurd (omega arith)

pub returns-then-is_empty : goal.returns-then-is_empty
returns-then-is_empty c =
    let none : vec_len c.loop-level.frontier ≡ 0 = eqb-true (vec_len c.loop-level.frontier) 0 (sym c.is_empty.ensures ∙ c.if-is_empty.true) in
    let short : length c.loop-level.frontier.items ≡ 0 = omega arith in
    let empty : c.loop-level.frontier.items ≡ [] = nil_of c.loop-level.frontier.items short in
    let counted : vec_len c.loop-level.levels ≡ length c.args.waiters.now = c.loop-level.invariant.long in
    let within : c.loop-level.level ≤ length c.args.waiters.now = omega arith in
    record {
      long = omega arith;
      least = (λ x lt. c.loop-level.invariant.levels x lt ∙ levels_stay c.args.waiters.now c.args.target c.loop-level.level (length c.args.waiters.now) c.loop-level.frontier.items empty within c.loop-level.invariant.ready x lt);
    }
