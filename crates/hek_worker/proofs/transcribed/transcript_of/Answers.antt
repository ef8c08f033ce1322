use Rattle.std.proofs.Common.{arith}
use Rattle.std.specs.Vec.Iter.{into_iter_items}
use Rattle.hek_worker.proofs.AsTranscripts.{whole}
use Rattle.hek_worker.proofs.transcribed.transcript_of.Goals as goal

pub returns : goal.returns
returns c =
    whole c.args.schedule.now c.args.history.items (into_iter_items c.loop-entry.entry-iterator) c.loop-entry.told c.loop-entry.invariant
    (omega (arith, c.loop-entry.entry-iterator.rest.ok, c.in-None.ensures.steps.0))
