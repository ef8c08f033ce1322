use Rattle.std.proofs.Common.{◌≡◌, take}
use Rattle.hek_buckets.specs.LockLists.{holders_of}
use Rattle.hek_machine.specs.Room.{Reserved, AreJoined}
use Rattle.hek_machine.proofs.engine.Engine.reserve_joins.Given as goal

abbrev pub invariant-loop-place : goal.invariant-loop-place
invariant-loop-place l = record {
  reserved : Reserved l.fn.self l.self;
  buckets : l.self.buckets ≡ l.fn.self.buckets;
  joins : AreJoined l.self l.fn.t (take l.place (holders_of l.fn.self.buckets l.bucket).items);
}
