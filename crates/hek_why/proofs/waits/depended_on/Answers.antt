use Rattle.std.proofs.Common.{ℕ, arith}
use Rattle.hek_rules.specs.World.{World}
use Rattle.hek_rules.specs.Listing.{has}
use Rattle.hek_why.proofs.Finds.{ids_next, ids_end}
use Rattle.hek_why.proofs.waits.depended_on.Goals as goal

pub loop-place-preserved : goal.loop-place-preserved
loop-place-preserved c =
    ids_next c.args.machine.now (λ (w : World) (t : ℕ). has w.dependents t c.args.t) c.loop-place.place c.new-u.result c.in_ok-is_dependent.field-0 c.loop-place.txns.items c.keep_if.new.list.items
    c.new-u.ensures c.in_ok-is_dependent.ensures c.in_ok-keep_if.ensures c.loop-place.invariant

pub returns : goal.returns
returns c =
    ids_end c.args.machine.now (λ (w : World) (t : ℕ). has w.dependents t c.args.t) c.loop-place.place c.txns-place-end.result c.loop-place.txns.items (omega arith) c.txns-place-end.ensures.shown c.loop-place.invariant
