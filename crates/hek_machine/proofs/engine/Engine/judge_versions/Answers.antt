use Rattle.std.proofs.Common.{sym, ◌∙◌, refl, None, rules}
use Rattle.hek_machine.proofs.WalkRules.{one_more, by_hidden, refused-verdict}
use Rattle.hek_machine.proofs.engine.Engine.judge_versions.Goals as goal

pub loop-v-preserved : goal.loop-v-preserved
loop-v-preserved c = record {
  left = one_more c.args.self.now c.args.t c.loop-v.v-index c.v-item.result c.args.aim.now c.args.vs.now c.args.effects.now.items c.loop-v.effects.items c.judge_sight.new.effects.items c.in_ok-refused.refused
      (search rules) (search rules) c.loop-v.invariant.left c.in_ok-refused.ensures (sym c.is_some.ensures ∙ c.if-is_some.false);
}

pub returns-then-is_some : goal.returns-then-is_some
returns-then-is_some c =
    refused-verdict c.args.self.now c.args.t c.loop-v.v-index c.v-item.result c.args.aim.now c.args.vs.now c.args.effects.now.items c.loop-v.effects.items c.judge_sight.new.effects.items c.in_ok-refused.refused
    (search rules) (search rules) c.loop-v.invariant.left c.in_ok-refused.ensures (sym c.is_some.ensures ∙ c.if-is_some.true)

pub loop-v-preserved-then-is_hidden : goal.loop-v-preserved-then-is_hidden
loop-v-preserved-then-is_hidden c = record {
  left = one_more c.args.self.now c.args.t c.loop-v.v-index c.v-item.result c.args.aim.now c.args.vs.now c.args.effects.now.items c.loop-v.effects.items c.loop-v.effects.items None
      (search rules) (search rules) c.loop-v.invariant.left
      (by_hidden c.args.self.now c.args.t c.v-item.result c.args.aim.now c.loop-v.effects.items (sym c.sight_at-sight.ensures ∙ c.is_hidden.ensures c.if-is_hidden.true)) refl;
}
