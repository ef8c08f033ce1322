use Rattle.std.proofs.Common.{rules}
use Rattle.hek_machine.proofs.EffectTurns.{able_turn, done_more}
use Rattle.hek_machine.proofs.engine.Engine.apply_all.Goals as goal

pub apply-requires-clause-able : goal.apply-requires-clause-able
apply-requires-clause-able c =
    able_turn c.args.self.now c.loop-effect.self c.args.t c.args.made c.loop-effect.effect-index c.effect-item.result c.args.effects.now c.requires.ordered
    (search rules) (search rules) c.requires.small c.requires.allowed c.loop-effect.invariant.done

pub loop-effect-preserved : goal.loop-effect-preserved
loop-effect-preserved c = record {
  done = done_more c.args.self.now c.loop-effect.self c.apply.new.self c.args.t c.args.made c.loop-effect.effect-index c.effect-item.result c.args.effects.now
      (search rules) (search rules) c.requires.small c.requires.allowed c.loop-effect.invariant.done c.apply.ensures.shows c.apply.ensures.room;
}
