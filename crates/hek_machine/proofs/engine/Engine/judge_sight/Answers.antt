use Rattle.std.proofs.Common.{sym, ◌∙◌}
use Rattle.hek_machine.proofs.WalkRules.{maker_known, by_sight, by_promise, by_hidden, if_ok}
use Rattle.hek_machine.proofs.engine.Engine.judge_sight.Goals as goal

pub judge_wait-requires-clause-maker : goal.judge_wait-requires-clause-maker
judge_wait-requires-clause-maker c = maker_known c.args.self.now c.args.t c.args.v c.in-HiddenActive.u c.requires.ordered (sym c.requires.sight ∙ c.in-HiddenActive.is)

pub returns-in-Seen : goal.returns-in-Seen
returns-in-Seen c =
    if_ok c.append.result _ _ (λ r is. by_sight c.args.self.now c.args.t c.args.v c.args.aim.now _ _ c.args.effects.now.items r c.append.new.effects.items
    (sym c.requires.sight ∙ c.in-Seen.is) c.judge_lock.ensures is) c.append.ensures

pub returns-in_ok-push-in-SeenIf : goal.returns-in_ok-push-in-SeenIf
returns-in_ok-push-in-SeenIf c =
    if_ok c.append-in-SeenIf.result _ _ (λ r is. by_promise c.args.self.now c.args.t c.args.v c.in-SeenIf.u c.args.aim.now _ c.args.effects.now.items _ r c.append-in-SeenIf.new.effects.items
    (sym c.requires.sight ∙ c.in-SeenIf.is) c.judge_lock-in-SeenIf.ensures c.in_ok-push-in-SeenIf.ensures.items is) c.append-in-SeenIf.ensures

pub returns-in-Hidden : goal.returns-in-Hidden
returns-in-Hidden c =
    by_hidden c.args.self.now c.args.t c.args.v c.args.aim.now c.args.effects.now.items (sym c.requires.sight ∙ c.in-Hidden.is)

pub returns-in-HiddenActive : goal.returns-in-HiddenActive
returns-in-HiddenActive c =
    if_ok c.append-in-HiddenActive.result _ _ (λ r is. by_sight c.args.self.now c.args.t c.args.v c.args.aim.now _ _ c.args.effects.now.items r c.append-in-HiddenActive.new.effects.items
    (sym c.requires.sight ∙ c.in-HiddenActive.is) c.judge_wait.ensures is) c.append-in-HiddenActive.ensures
