use Rattle.hek_why.proofs.Sounds.{buckets_above}
use Rattle.hek_why.proofs.walked.is_of_bucket.Goals as goal

pub nonzero_rem-result : goal.nonzero_rem-result
nonzero_rem-result c = buckets_above c.args.machine.now c.buckets.result c.clock.ensures.stands c.buckets.ensures.shown
