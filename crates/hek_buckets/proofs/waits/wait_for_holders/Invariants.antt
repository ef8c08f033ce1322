use Rattle.std.proofs.Common.{◌≡◌, ◌+◌, ◌<◌, ◌^◌, length, drop}
use Rattle.std.specs.List.{All}
use Rattle.hek_txn.specs.TxnTable.{Declared, IsEven, waits_of}
use Rattle.hek_buckets.specs.Waited.{with_waiting, waiting_of, waiting_for_all, IsReady}
use Rattle.hek_buckets.proofs.waits.wait_for_holders.Given as goal

-- t waits for the holders before the index
abbrev pub invariant-loop-h : goal.invariant-loop-h
invariant-loop-h l = record {
  frame : l.txns ≡ with_waiting l.fn.txns l.txn l.txns;
  waiting : waiting_for_all l.txn (waiting_of l.txns l.txn) (drop l.h-index l.h-items) ≡ waiting_for_all l.txn (waiting_of l.fn.txns l.txn) l.h-items;
  even : IsEven l.txns;
  txn : Declared l.txns l.txn;
  holders : All (λ h. Declared l.txns h × IsReady l.txns l.txn h) l.h-items;
  counted : waits_of l.txns l.txn + length (drop l.h-index l.h-items) < 2 ^ 64;
}
