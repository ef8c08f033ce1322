use Rattle.std.proofs.Common.{arith}
use Rattle.hek_rules.specs.World.{World}
use Rattle.hek_rules.specs.Waits.{is_waited_for}
use Rattle.hek_why.proofs.Finds.{finds_next, finds_end}
use Rattle.hek_why.proofs.waits.held_over.Goals as goal

pub loop-index-preserved : goal.loop-index-preserved
loop-index-preserved c =
    finds_next c.args.machine.now (λ (w : World). is_waited_for w.read_locks c.args.u) c.loop-index.index c.new-v.result c.versions-index-end.result c.is_waited_for.result c.loop-index.versions.items c.keep_if.new.list.items
    c.new-v.ensures c.loop-index-test.true c.versions-index-end.ensures c.is_waited_for.ensures c.in_ok-keep_if.ensures c.loop-index.invariant

pub returns : goal.returns
returns c =
    finds_end c.args.machine.now (λ (w : World). is_waited_for w.read_locks c.args.u) c.loop-index.index c.versions-index-end.result c.loop-index.versions.items (omega arith) c.versions-index-end.ensures c.loop-index.invariant
