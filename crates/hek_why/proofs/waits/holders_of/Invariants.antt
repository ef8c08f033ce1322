use Rattle.std.proofs.Common.{ℕ}
use Rattle.std.specs.List.{All}
use Rattle.hek_rules.specs.World.{World}
use Rattle.hek_rules.specs.Listing.{has}
use Rattle.hek_txn.specs.TxnTable.{Declared}
use Rattle.hek_why.proofs.Finds.{Ids}
use Rattle.hek_why.proofs.waits.holders_of.Given as goal

abbrev pub invariant-loop-place : goal.invariant-loop-place
invariant-loop-place l = record {
  members : Ids l.machine (λ (w : World) (t : ℕ). has w.waiters t l.u) l.txns.items l.place;
  declared : All (Declared l.machine.txns) l.txns.items;
}
