use Rattle.std.proofs.Common.{◌≤◌, arith}
use Rattle.hek_image.specs.Loading.{txn_at}
use Rattle.hek_image.proofs.Takings.{one_more_taken, fault_of_one, all_taken}
use Rattle.hek_image.proofs.reading.next_txns.Goals as goal

pub returns-in-Err-clause-takes : goal.returns-in-Err-clause-takes
returns-in-Err-clause-takes g c told =
    let so_far = c.loop.invariant in
    fault_of_one _ (txn_at c.args.version) c.args.count c.loop.counter c.args.schedule.now c.args.at c.loop.schedule c.next_txn.new.schedule c.loop.next 34 c.in-Err.fault _ _ _ c.loop-test.true (so_far.so_far told) (c.in-Err.ensures.takes (so_far.tells told))

pub loop-preserved : goal.loop-preserved
loop-preserved g c =
    let so_far = c.loop.invariant in
    let one = c.in-Ok.ensures in
    record {
      works = one.fails;
      tells = λ told. one.tells (so_far.tells told);
      so_far = λ told. one_more_taken (txn_at c.args.version) c.args.count c.loop.counter c.args.schedule.now c.args.at c.loop.schedule c.next_txn.new.schedule c.loop.next c.in-Ok.after 34 _ _ _ c.loop-test.true (so_far.so_far told) (one.takes (so_far.tells told));
      grown = (omega (arith, so_far.grown.0, one.grown.0), omega (arith, so_far.grown.1, one.grown.1), omega (arith, so_far.grown.2, one.grown.2));
      at = omega (arith, so_far.at, one.at);
    }

pub returns-clause-takes : goal.returns-clause-takes
returns-clause-takes g c told =
    let le : c.loop.counter ≤ c.args.count = omega arith in
    all_taken (txn_at c.args.version) c.args.count c.loop.counter c.args.schedule.now c.args.at c.loop.schedule c.loop.next 34 _ _ le c.loop-test.false (c.loop.invariant.so_far told)
