use Rattle.std.proofs.Common.{sym, ◌∙◌}
use Rattle.hek_machine.proofs.WalkRules.{waits_there, waits_refused, waits_new}
use Rattle.hek_machine.proofs.engine.Engine.judge_wait.Goals as goal

pub returns-then-has_waiter : goal.returns-then-has_waiter
returns-then-has_waiter c =
    waits_there c.args.self.now c.args.t c.args.u (sym c.level.ensures ∙ c.in-Serializable.is) (sym c.has_waiter.ensures ∙ c.if-has_waiter.true)

pub returns-then-no_more_waits : goal.returns-then-no_more_waits
returns-then-no_more_waits c =
    waits_refused c.args.self.now c.args.t c.args.u (sym c.level.ensures ∙ c.in-Serializable.is) (sym c.has_waiter.ensures ∙ c.if-has_waiter.false)
    (sym c.no_more_waits.ensures ∙ c.if-no_more_waits.true)

pub returns-else-no_more_waits : goal.returns-else-no_more_waits
returns-else-no_more_waits c =
    waits_new c.args.self.now c.args.t c.args.u (sym c.level.ensures ∙ c.in-Serializable.is) (sym c.has_waiter.ensures ∙ c.if-has_waiter.false)
    (sym c.no_more_waits.ensures ∙ c.if-no_more_waits.false)
