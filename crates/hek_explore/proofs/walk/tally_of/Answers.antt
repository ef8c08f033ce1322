use Rattle.std.proofs.Common.{rules, ◌≡◌, ◌∷◌}
use Rattle.hek_explore.proofs.Rows.{tallied-none, tallied-next}
use Rattle.hek_explore.proofs.walk.tally_of.Goals as goal

pub loop-class-init : goal.loop-class-init
loop-class-init c =
    tallied-none c.args.schedule.now c.args.form c.args.moves.now c.args.layer.now c.classes-rest.result.now c.new-tally.result c.new-tally.ensures c.classes-rest.ensures

pub loop-class-preserved : goal.loop-class-preserved
loop-class-preserved c =
    let is : c.loop-class.rest.now ≡ c.in-Some.class.now ∷ c.in-Some.later.now = search rules in
    tallied-next c.args.schedule.now c.args.form c.args.moves.now c.args.layer.now c.loop-class.rest.now c.in-Some.later.now c.in-Some.class.now c.loop-class.tally
    c.note_all.new.self c.in_ok-outcome.outcome c.orders.result c.first.result.now is c.orders.ensures c.first.ensures c.in_ok-note_all.ensures c.in_ok-outcome.ensures
    c.in_ok-precede.ensures c.loop-class.invariant
