use Rattle.std.specs.Vec.Iter.{into_iter_items}
use Rattle.hek_worker.proofs.AsTranscripts.{IsFront}
use Rattle.hek_worker.proofs.transcribed.transcript_of.Given as goal

abbrev pub invariant-loop-entry : goal.invariant-loop-entry
invariant-loop-entry l = IsFront l.schedule l.fn.history.items (into_iter_items l.entry-iterator) l.told
