use Rattle.std.proofs.Common.{ℕ, arith}
use Rattle.std.specs.Prelude.{◌==◌}
use Rattle.hek_rules.specs.World.{World, Version, bucket_of}
use Rattle.hek_why.proofs.Finds.{finds_next, finds_end}
use Rattle.hek_why.proofs.walked.versions_in.Goals as goal

pub loop-index-preserved : goal.loop-index-preserved
loop-index-preserved c =
    finds_next c.args.machine.now (λ (w : World) (v : ℕ) (x : Version). bucket_of w x.key == c.args.bucket) c.loop-index.index c.new-v.result c.versions-index-end.result c.is_of_bucket.result c.loop-index.versions.items c.keep_if.new.list.items
    c.new-v.ensures c.loop-index-test.true c.versions-index-end.ensures c.is_of_bucket.ensures c.in_ok-keep_if.ensures c.loop-index.invariant

pub returns : goal.returns
returns c =
    finds_end c.args.machine.now (λ (w : World) (v : ℕ) (x : Version). bucket_of w x.key == c.args.bucket) c.loop-index.index c.versions-index-end.result c.loop-index.versions.items (omega arith) c.versions-index-end.ensures c.loop-index.invariant
