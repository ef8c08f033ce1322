use Rattle.std.proofs.Common.{List, ℕ, subst, sym}
use Rattle.hek_permute.specs.Searches.{IsFoundAt, Misses}
use Rattle.hek_permute.proofs.Searches.{search-first, search-next, search-last, search-hit, front_is, tried-miss, when_true, when_false}
use Rattle.hek_permute.proofs.find.find_at.Goals as goal

pub loop-init : goal.loop-init
loop-init g c = record {
  so_far = search-first c.args.schedule.now c.args.form c.args.moves.now c.args.sought.now c.args.count c.in_ok-order.order.items c.in_ok-order.ensures;
  tried = tt;
}

pub returns-then-branch : goal.returns-then-branch
returns-then-branch g c =
    subst (IsFoundAt c.args.schedule.now c.args.form c.args.moves.now c.args.sought.now c.args.count) (sym c.in_ok-meets_anew.ensures.tried)
    (search-hit c.args.schedule.now c.args.form c.args.moves.now c.args.sought.now c.args.count c.loop.order.items c.front_of-front.result.now c.loop.invariant.so_far
    (front_is c.args.count c.loop.order.items c.as_slice.result.now c.front_of-front.result.now c.as_slice.ensures.value c.front_of-front.ensures)
    (when_true _ _ c.in_ok-meets_anew.field-0 c.if-branch.true c.in_ok-meets_anew.ensures.right))

pub returns-then-not-advance : goal.returns-then-not-advance
returns-then-not-advance g c =
    search-last c.args.schedule.now c.args.form c.args.moves.now c.args.sought.now c.args.count c.loop.order.items c.loop.invariant.so_far
    (subst (Misses c.args.schedule.now c.args.form c.args.moves.now c.args.sought.now)
    (front_is c.args.count c.loop.order.items c.as_slice.result.now c.front_of-front.result.now c.as_slice.ensures.value c.front_of-front.ensures)
    (when_false _ _ c.in_ok-meets_anew.field-0 c.if-branch.false c.in_ok-meets_anew.ensures.right))
    c.if-not-advance.ensures

pub loop-preserved : goal.loop-preserved
loop-preserved g c = record {
  so_far = search-next c.args.schedule.now c.args.form c.args.moves.now c.args.sought.now c.args.count c.loop.order.items c.advance.new.order.items c.loop.invariant.so_far
      (subst (Misses c.args.schedule.now c.args.form c.args.moves.now c.args.sought.now)
      (front_is c.args.count c.loop.order.items c.as_slice.result.now c.front_of-front.result.now c.as_slice.ensures.value c.front_of-front.ensures)
      (when_false _ _ c.in_ok-meets_anew.field-0 c.if-branch.false c.in_ok-meets_anew.ensures.right))
      c.if-not-advance.ensures;
  tried = tried-miss (λ (moves : List ℕ). Misses c.args.schedule.now c.args.form c.args.moves.now c.args.sought.now moves) c.meets_anew.new.tried c.front_of-front.result.now
      c.in_ok-meets_anew.ensures.tried (when_false _ _ c.in_ok-meets_anew.field-0 c.if-branch.false c.in_ok-meets_anew.ensures.right);
}
