use Rattle.std.proofs.Common.{ℕ, suc, ◌≡◌, ◌-◌, length, Some, subst, refl, arith}
use Rattle.hek_rules.specs.Victim.{between}
use Rattle.hek_deadlock.specs.Rows.{waits_by_rows, level_at}
use Rattle.hek_deadlock.proofs.Cycle.{walk_more, walk_end, between-zero, between-at, between-some, between-none, next_on, IsOn}
use Rattle.hek_deadlock.proofs.search.cycle.Goals as goal

pub loop-left-init : goal.loop-left-init
loop-left-init c = record {
  rest = rw c.in_ok-members.ensures.items refl;
  within = c.requires.victim;
  level = c.requires.count;
}

pub loop-left-preserved : goal.loop-left-preserved
loop-left-preserved c =
    let k : ℕ = c.loop-left.left - 1 in
    let same : c.loop-left.left ≡ suc k = omega arith in
    let level : level_at c.args.levels.now c.loop-left.x ≡ Some (suc k) = subst (λ (i : ℕ). level_at c.args.levels.now c.loop-left.x ≡ Some i) same c.loop-left.invariant.level in
    let on : IsOn c.args.waiters.now c.args.levels.now k c.in-Some.y = next_on c.args.waiters.now c.args.levels.now k c.loop-left.x c.in-Some.y c.in-Some.ensures in
    record {
      rest =
          walk_more c.loop-left.members.items c.push.new.self.items (between (waits_by_rows c.args.waiters.now) (length c.args.waiters.now) k c.in-Some.y c.args.victim) (between (waits_by_rows c.args.waiters.now) (length c.args.waiters.now) c.loop-left.left c.loop-left.x c.args.victim) _ c.in-Some.y c.in_ok-push-in-Some.ensures.items
          (between-at (waits_by_rows c.args.waiters.now) (length c.args.waiters.now) k c.loop-left.left c.loop-left.x c.args.victim _ same
          (between-some c.args.waiters.now c.args.victim c.args.levels.now c.requires.levels k c.loop-left.x c.in-Some.y c.loop-left.invariant.within level c.in-Some.ensures))
          c.loop-left.invariant.rest;
      within = on.within;
      level = on.level;
    }

pub returns-in-None : goal.returns-in-None
returns-in-None c =
    let k : ℕ = c.loop-left.left - 1 in
    let same : c.loop-left.left ≡ suc k = omega arith in
    let level : level_at c.args.levels.now c.loop-left.x ≡ Some (suc k) = subst (λ (i : ℕ). level_at c.args.levels.now c.loop-left.x ≡ Some i) same c.loop-left.invariant.level in
    walk_end c.loop-left.members.items (between (waits_by_rows c.args.waiters.now) (length c.args.waiters.now) c.loop-left.left c.loop-left.x c.args.victim) _
    (between-at (waits_by_rows c.args.waiters.now) (length c.args.waiters.now) k c.loop-left.left c.loop-left.x c.args.victim _ same
    (between-none c.args.waiters.now c.args.victim c.args.levels.now c.requires.levels k c.loop-left.x c.loop-left.invariant.within level c.in-None.ensures))
    c.loop-left.invariant.rest

pub returns : goal.returns
returns c =
    let none_left : c.loop-left.left ≡ 0 = omega arith in
    walk_end c.loop-left.members.items (between (waits_by_rows c.args.waiters.now) (length c.args.waiters.now) c.loop-left.left c.loop-left.x c.args.victim) _
    (between-zero (waits_by_rows c.args.waiters.now) (length c.args.waiters.now) c.loop-left.left c.loop-left.x c.args.victim none_left)
    c.loop-left.invariant.rest
