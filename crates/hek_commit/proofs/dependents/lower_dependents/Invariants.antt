use Rattle.std.proofs.Common.{◌≡◌, drop}
use Rattle.hek_txn.specs.TxnTable.{dependents_of}
use Rattle.hek_commit.specs.Committed.{AreCounted, lowered}
use Rattle.hek_commit.proofs.dependents.lower_dependents.Given as goal

-- the counters of the dependents before the index are lowered
abbrev pub invariant-loop-i : goal.invariant-loop-i
invariant-loop-i l = record {
  counted : AreCounted l.txns.commit_deps (drop l.i (dependents_of l.fn.txns l.t).items);
  frame : l.txns ≡ record l.fn.txns { commit_deps = l.txns.commit_deps };
  rest : lowered l.txns.commit_deps (drop l.i (dependents_of l.fn.txns l.t).items) ≡ lowered l.fn.txns.commit_deps (dependents_of l.fn.txns l.t).items;
}
