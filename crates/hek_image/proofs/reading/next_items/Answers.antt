use Rattle.std.proofs.Common.{◌≡◌, ◌+◌, ◌-◌, ◌≤◌, arith}
use Rattle.hek_image.specs.Taking.{item_at, item_size}
use Rattle.hek_image.proofs.Exact.{others_fit, one_more_grown}
use Rattle.hek_image.proofs.Takings.{one_more_taken, fault_of_one, all_taken}
use Rattle.hek_image.proofs.reading.next_items.Goals as goal

pub returns-in-Err-clause-takes : goal.returns-in-Err-clause-takes
returns-in-Err-clause-takes g c told =
    let so_far = c.loop.invariant in
    fault_of_one _ (item_at c.args.item) c.args.count c.loop.counter c.args.schedule.now c.args.at c.loop.schedule c.next_item.new.schedule c.loop.next (item_size c.args.item) c.in-Err.fault _ _ _ c.loop-test.true (so_far.so_far told) (c.in-Err.ensures.takes (so_far.tells told))

pub loop-preserved : goal.loop-preserved
loop-preserved g c =
    let i = c.args.item in
    let so_far = c.loop.invariant in
    let one = c.in-Ok.ensures in
    let left : c.args.count - c.loop.counter ≡ (c.args.count - (c.loop.counter + 1)) + 1 = omega (arith, c.loop-test.true) in
    record {
      works = one.fails;
      tells = λ told. one.tells (so_far.tells told);
      so_far = λ told. one_more_taken (item_at i) c.args.count c.loop.counter c.args.schedule.now c.args.at c.loop.schedule c.next_item.new.schedule c.loop.next c.in-Ok.after (item_size i) _ _ _ c.loop-test.true (so_far.so_far told) (one.takes (so_far.tells told));
      fits = others_fit i (c.args.count - c.loop.counter) (c.args.count - (c.loop.counter + 1)) c.loop.schedule c.next_item.new.schedule left so_far.fits one.grown;
      grown = one_more_grown i c.loop.counter c.args.schedule.now c.loop.schedule c.next_item.new.schedule so_far.grown one.grown;
      at = omega (arith, so_far.at, one.at);
    }

pub returns-clause-takes : goal.returns-clause-takes
returns-clause-takes g c told =
    let le : c.loop.counter ≤ c.args.count = omega arith in
    all_taken (item_at c.args.item) c.args.count c.loop.counter c.args.schedule.now c.args.at c.loop.schedule c.loop.next (item_size c.args.item) _ _ le c.loop-test.false (c.loop.invariant.so_far told)
