use Rattle.std.proofs.Common.{ℕ, ◌+◌, arith, length}
use Rattle.hek_rules.specs.World.{World}
use Rattle.hek_why.specs.Changes.{txn_changes}
use Rattle.hek_why.proofs.Adding.{adds_all}
use Rattle.hek_why.proofs.difference.add_txns.Goals as goal

pub returns : goal.returns
returns c =
    adds_all c.args.before.now c.args.after.now (λ (w x : World) (i : ℕ). txn_changes w x (i + 1)) (λ (x : World). length x.txns) c.loop-place.place c.txns-place-end.result c.args.list.now.items c.loop-place.list.items
    (omega arith) c.txns-place-end.ensures.shown c.loop-place.invariant
