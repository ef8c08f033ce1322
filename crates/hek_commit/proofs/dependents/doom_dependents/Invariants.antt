use Rattle.std.proofs.Common.{◌≡◌, drop, length}
use Rattle.hek_rules.specs.Table.{doom}
use Rattle.hek_txn.specs.TxnTable.{dependents_of}
use Rattle.hek_commit.proofs.dependents.doom_dependents.Given as goal

-- the dependents before the index have AbortNow
abbrev pub invariant-loop-i : goal.invariant-loop-i
invariant-loop-i l = record {
  frame : l.txns ≡ record l.fn.txns { cores = l.txns.cores };
  rest : doom l.txns.cores (drop l.i (dependents_of l.fn.txns l.t).items) ≡ doom l.fn.txns.cores (dependents_of l.fn.txns l.t).items;
  long : length l.txns.cores ≡ length l.fn.txns.cores;
}
