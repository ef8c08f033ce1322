use Rattle.std.proofs.Common.{ℕ, arith}
use Rattle.hek_rules.specs.World.{World}
use Rattle.hek_rules.specs.Listing.{has}
use Rattle.hek_why.proofs.Finds.{ids_next, ids_end}
use Rattle.hek_why.proofs.waits.readers_of.Goals as goal

pub loop-place-preserved : goal.loop-place-preserved
loop-place-preserved c =
    ids_next c.args.machine.now (λ (w : World) (t : ℕ). has w.read_locks t c.args.v) c.loop-place.place c.new-t.result c.in_ok-reads.field-0 c.loop-place.txns.items c.keep_if.new.list.items
    c.new-t.ensures c.in_ok-reads.ensures c.in_ok-keep_if.ensures c.loop-place.invariant

pub returns : goal.returns
returns c =
    ids_end c.args.machine.now (λ (w : World) (t : ℕ). has w.read_locks t c.args.v) c.loop-place.place c.txns-place-end.result c.loop-place.txns.items (omega arith) c.txns-place-end.ensures.shown c.loop-place.invariant
