use Rattle.std.proofs.Common.{take}
use Rattle.hek_laws.specs.Lists.{In}
use Rattle.hek_machine.specs.Room.{Reserved, IsEffectReady}
use Rattle.hek_machine.proofs.engine.Engine.reserve_others.Given as goal

-- the lists of the effects so far have room
abbrev pub invariant-loop-effect : goal.invariant-loop-effect
invariant-loop-effect l = record {
  reserved : Reserved l.fn.self l.self;
  ready : (e : _) → In e (take l.effect-index l.effects) → IsEffectReady l.self l.t e;
}
