use Rattle.hek_machine.specs.Room.{reads_in, writes_in, wait_effects, buckets_in}
use Rattle.hek_machine.proofs.Needs.{Counted}
use Rattle.hek_machine.proofs.room.needs_of.Given as goal

abbrev pub invariant-loop-effect : goal.invariant-loop-effect
invariant-loop-effect l = record {
  reads : Counted reads_in l.effects l.effect-index l.needs.reads;
  writes : Counted writes_in l.effects l.effect-index l.needs.writes;
  waits : Counted wait_effects l.effects l.effect-index l.needs.waits;
  buckets : Counted buckets_in l.effects l.effect-index l.needs.buckets;
}
