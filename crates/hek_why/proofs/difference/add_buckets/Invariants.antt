use Rattle.hek_rules.specs.World.{World}
use Rattle.hek_why.specs.Changes.{each_below, bucket_changes, Adds}
use Rattle.hek_why.proofs.difference.add_buckets.Given as goal

abbrev pub invariant-loop-bucket : goal.invariant-loop-bucket
invariant-loop-bucket l = Adds l.before l.after (λ (w x : World). each_below (bucket_changes w x) l.bucket) l.fn.list.items l.list.items
