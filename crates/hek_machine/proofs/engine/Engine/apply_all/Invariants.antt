use Rattle.hek_machine.proofs.EffectTurns.{Done}
use Rattle.hek_machine.proofs.engine.Engine.apply_all.Given as goal

abbrev pub invariant-loop-effect : goal.invariant-loop-effect
invariant-loop-effect l = record {
  done : Done l.fn.self l.t l.made l.effects l.effect-index l.self;
}
