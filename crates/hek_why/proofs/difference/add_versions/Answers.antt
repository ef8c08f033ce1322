use Rattle.std.proofs.Common.{arith, length}
use Rattle.hek_rules.specs.World.{World}
use Rattle.hek_why.specs.Changes.{version_changes}
use Rattle.hek_why.proofs.Adding.{adds_next, adds_all}
use Rattle.hek_why.proofs.difference.add_versions.Goals as goal

pub loop-index-preserved : goal.loop-index-preserved
loop-index-preserved c =
    adds_next c.args.before.now c.args.after.now (λ (w x : World). version_changes w x) c.loop-index.index c.new-v.result c.args.list.now.items c.loop-index.list.items c.add_version.new.list.items
    c.new-v.ensures c.in_ok-add_version.ensures c.loop-index.invariant

pub returns : goal.returns
returns c =
    adds_all c.args.before.now c.args.after.now (λ (w x : World). version_changes w x) (λ (x : World). length x.versions) c.loop-index.index c.versions-index-end.result c.args.list.now.items c.loop-index.list.items
    (omega arith) c.versions-index-end.ensures c.loop-index.invariant
