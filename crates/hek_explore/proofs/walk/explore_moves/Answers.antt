use Rattle.std.proofs.Common.{rules, ◌≡◌, ◌∙◌, ap, refl, sum, List, ℕ}
use Rattle.hek_explore.proofs.Rows.{walked-first, walked-all}
use Rattle.hek_explore.proofs.walk.explore_moves.Goals as goal

pub loop-init : goal.loop-init
loop-init g c =
    walked-first c.args.schedule.now c.args.form c.args.moves.now c.in-Some.most 0 c.in_ok-left.left.items c.in_ok-layer.ensures.0 c.in_ok-layer.layer
    c.in_ok-left.ensures
    (c.in-Some.ensures ∙ ap (λ (l : List ℕ). sum l) c.as_slice.ensures.value)
    refl
    c.in_ok-layer.ensures.1
    c.in_ok-layer.ensures.2

pub returns : goal.returns
returns g c =
    let over : c.loop.counter ≡ c.in-Some.most = search rules in
    walked-all c.args.schedule.now c.args.form c.args.moves.now c.in-Some.most c.loop.counter c.loop.layer c.in_ok-tally_of.field-0 over
    c.loop.invariant c.in_ok-tally_of.ensures
