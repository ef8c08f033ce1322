use Rattle.hek_permute.proofs.Ranges.{at_start, at_next, at_last, at_end, at_none, played_with}
use Rattle.hek_permute.proofs.whole.play_all.Goals as goal

pub returns-in_default : goal.returns-in_default
returns-in_default g c =
    at_none c.args.schedule.now c.args.rules.now c.args.form c.args.from c.args.to c.in_ok-moves.moves.items c.as_slice.result.now c.new-tally.result c.in_ok-moves.ensures
    c.as_slice.ensures.value (rw c.in_default.is at c.in_ok-order.ensures) c.new-tally.ensures

pub loop-init : goal.loop-init
loop-init g c =
    at_start c.args.schedule.now c.args.rules.now c.args.form c.args.from c.args.to c.in_ok-moves.moves.items c.as_slice.result.now c.in-Some.order.items c.new-tally.result
    c.in_ok-moves.ensures c.as_slice.ensures.value (rw c.in-Some.is at c.in_ok-order.ensures) c.new-tally.ensures

pub returns-then-not-advance : goal.returns-then-not-advance
returns-then-not-advance g c =
    at_last c.args.schedule.now c.args.rules.now c.args.form c.args.from c.args.to c.loop.counter c.in_ok-moves.moves.items c.loop.order.items c.loop.tally c.play_one.new.tally
    c.loop.invariant c.loop-test.true
    (played_with c.args.schedule.now c.args.form c.in_ok-moves.moves.items c.as_slice-in-loop.result.now c.loop.order.items c.as_slice-in-loop-2.result.now
    c.loop.tally c.play_one.new.tally c.as_slice-in-loop.ensures.value c.as_slice-in-loop-2.ensures.value c.in_ok-play_one.ensures)
    c.if-not-advance.ensures

pub loop-preserved : goal.loop-preserved
loop-preserved g c =
    at_next c.args.schedule.now c.args.rules.now c.args.form c.args.from c.args.to c.loop.counter c.in_ok-moves.moves.items c.loop.order.items c.advance.new.order.items c.loop.tally
    c.play_one.new.tally c.loop.invariant c.loop-test.true
    (played_with c.args.schedule.now c.args.form c.in_ok-moves.moves.items c.as_slice-in-loop.result.now c.loop.order.items c.as_slice-in-loop-2.result.now
    c.loop.tally c.play_one.new.tally c.as_slice-in-loop.ensures.value c.as_slice-in-loop-2.ensures.value c.in_ok-play_one.ensures)
    c.if-not-advance.ensures

pub returns : goal.returns
returns g c = at_end c.args.schedule.now c.args.rules.now c.args.form c.args.from c.args.to c.loop.counter c.in_ok-moves.moves.items c.loop.order.items c.loop.tally c.loop.invariant c.loop-test.false
