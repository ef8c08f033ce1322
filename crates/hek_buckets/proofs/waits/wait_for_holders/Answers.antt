use Rattle.std.proofs.Common.{◌+◌, arith}
use Rattle.std.proofs.lemmas.List.{length-drop}
use Rattle.hek_buckets.proofs.WaitFor.{frame-frame, waiting-more, waits-more}
use Rattle.hek_buckets.proofs.waits.wait_for_holders.Goals as goal

pub loop-h-preserved : goal.loop-h-preserved
loop-h-preserved c =
    let i = c.loop-h.invariant in
    let e = c.wait_for.ensures in
    let hs = c.holders-h-items.result.now in
    let more = waits-more c.loop-h.txns c.wait_for.new.txns c.args.txn c.h-item.result e.waiting in
    record {
      frame = frame-frame c.args.txns.now c.loop-h.txns c.wait_for.new.txns c.args.txn i.frame e.frame;
      waiting = waiting-more hs c.loop-h.h-index c.h-item.result c.args.txn _ _ _ i.waiting c.loop-h-test.true c.h-item.is e.waiting;
      even = e.ready.even i.even;
      txn = e.ready.declared c.args.txn i.txn;
      holders = λ k d l. let h = i.holders k d l in (e.ready.declared _ h.0, e.ready.ready _ h.0 h.1);
      counted = let a = length-drop c.loop-h.h-index hs in let b = length-drop (c.loop-h.h-index + 1) hs in let t = c.loop-h-test.true in let n = i.counted in omega (arith, a, b, more, t, n);
    }
