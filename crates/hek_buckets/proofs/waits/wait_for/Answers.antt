use Rattle.std.proofs.Common.{sym}
use Rattle.hek_buckets.proofs.WaitFor.{Imposed, imposed-frame, imposed-waiting, imposed-ready, not-true}
use Rattle.hek_buckets.proofs.waits.wait_for.Goals as goal

imposed : (c : goal.After-impose_wait) → Imposed c.args.txns.now c.impose_wait.new.txns c.args.h c.args.t
imposed c = record {
  even = c.requires.even;
  txn = c.requires.txn;
  holder = c.requires.holder;
  other = not-true _ c.if-ne.ensures;
  fresh = sym c.if-not-has_waiter.ensures;
  txns = c.impose_wait.ensures.txns;
  items = c.impose_wait.ensures.items;
}

pub returns-then-not-has_waiter-clause-frame : goal.returns-then-not-has_waiter-clause-frame
returns-then-not-has_waiter-clause-frame c = imposed-frame (imposed c)

pub returns-then-not-has_waiter-clause-waiting : goal.returns-then-not-has_waiter-clause-waiting
returns-then-not-has_waiter-clause-waiting c = imposed-waiting (imposed c)

pub returns-then-not-has_waiter-clause-ready : goal.returns-then-not-has_waiter-clause-ready
returns-then-not-has_waiter-clause-ready c = imposed-ready (imposed c)
