use Rattle.std.proofs.Common.{ℕ, arith}
use Rattle.hek_rules.specs.World.{World}
use Rattle.hek_rules.specs.Listing.{has}
use Rattle.hek_txn.specs.TxnTable.{Declared}
use Rattle.hek_why.proofs.Finds.{ids_next, ids_end}
use Rattle.hek_why.proofs.Gathered.{kept_all}
use Rattle.hek_why.proofs.waits.holders_of.Goals as goal

pub loop-place-preserved : goal.loop-place-preserved
loop-place-preserved c = record {
  members = ids_next c.args.machine.now (λ (w : World) (t : ℕ). has w.waiters t c.args.u) c.loop-place.place c.new-t.result c.in_ok-is_listed.field-0 c.loop-place.txns.items c.keep_if.new.list.items
      c.new-t.ensures c.in_ok-is_listed.ensures c.in_ok-keep_if.ensures c.loop-place.invariant.members;
  declared = kept_all (Declared c.args.machine.now.txns) c.in_ok-is_listed.field-0 c.new-t.result c.loop-place.txns.items c.keep_if.new.list.items
      (let e = c.new-t.ensures in let h = c.txns-place-end.ensures.held in let l = c.loop-place-test.true in record { named = omega (arith, e); within = omega (arith, e, h, l) })
      c.in_ok-keep_if.ensures c.loop-place.invariant.declared;
}

pub returns-clause-members : goal.returns-clause-members
returns-clause-members c =
    ids_end c.args.machine.now (λ (w : World) (t : ℕ). has w.waiters t c.args.u) c.loop-place.place c.txns-place-end.result c.loop-place.txns.items (omega arith) c.txns-place-end.ensures.shown c.loop-place.invariant.members
