use Rattle.std.proofs.Common.{rules, refl, length, ◌≡◌}
use Rattle.hek_explore.proofs.Growing.{first-none, first-more, first-all}
use Rattle.hek_explore.proofs.grow.grow_class.Goals as goal

pub loop-place-init : goal.loop-place-init
loop-place-init c = first-none c.args.schedule.now c.args.form c.args.moves.now c.args.class.now c.in_ok-grown.grown c.in_ok-grown.ensures

pub loop-place-preserved : goal.loop-place-preserved
loop-place-preserved c =
    first-more c.args.schedule.now c.args.form c.args.moves.now c.args.class.now c.loop-place.place c.loop-place.grown c.push.new.self c.in_ok-found.found c.in_ok-push.ensures
    c.in_ok-found.ensures c.loop-place.invariant

pub returns : goal.returns
returns c =
    let over : c.loop-place.place ≡ length c.args.class.now.left = search rules in
    first-all c.args.schedule.now c.args.form c.args.moves.now c.args.class.now c.loop-place.place c.loop-place.grown over c.loop-place.invariant
