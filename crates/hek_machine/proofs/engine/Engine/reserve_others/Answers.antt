use Rattle.std.proofs.Common.{rules}
use Rattle.hek_machine.proofs.Reserves.{reserved_more, there-kept, in-at, ready_more}
use Rattle.hek_machine.proofs.engine.Engine.reserve_others.Goals as goal

pub reserve_other-requires : goal.reserve_other-requires
reserve_other-requires c = record {
  there = there-kept c.args.self.now _ c.loop-effect.invariant.reserved c.effect-item.result
      (c.requires.there c.effect-item.result (in-at c.args.effects.now c.loop-effect.effect-index c.effect-item.result (search rules) (search rules)));
}

pub loop-effect-preserved : goal.loop-effect-preserved
loop-effect-preserved c =
    let more = c.in_ok-reserve_other.ensures in record {
      reserved = reserved_more c.args.self.now c.loop-effect.self c.reserve_other.new.self c.loop-effect.invariant.reserved more.reserved;
      ready = ready_more c.loop-effect.self c.reserve_other.new.self c.args.t c.loop-effect.effect-index c.effect-item.result c.args.effects.now
          (search rules) (search rules) more.reserved more.ready c.loop-effect.invariant.ready;
    }
