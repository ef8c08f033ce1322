use Rattle.std.proofs.Common.{sym, ◌∙◌}
use Rattle.hek_rules.specs.declared.reply.Reply.TheVariants as reply
use Rattle.hek_rules.specs.declared.check.Check.TheVariants.{Refused, Doomed, StillAborted}
use Rattle.hek_machine.proofs.CheckRules.{needs-none}
use Rattle.hek_machine.proofs.StepRules.{answered_rule, unchanged_rule, unknown_rule, passed_rule}
use Rattle.hek_machine.proofs.engine.Engine.step_of.Goals as goal

pub returns-then-not-is_declared-clause-rule : goal.returns-then-not-is_declared-clause-rule
returns-then-not-is_declared-clause-rule c = unknown_rule c.args.self.now c.args.t c.args.e.now c.is_declared.result c.is_declared.ensures c.if-not-is_declared.true

pub returns-in-Refused-clause-rule : goal.returns-in-Refused-clause-rule
returns-in-Refused-clause-rule c =
    answered_rule c.args.self.now c.args.self.now c.args.t c.args.e.now (Refused c.in-Refused.why) _ (c.is_declared.ensures.0 c.if-not-is_declared.false) (sym c.check.ensures ∙ c.in-Refused.is) (unchanged_rule c.args.self.now (reply.Refused c.in-Refused.why))

pub returns-in-Doomed-clause-rule : goal.returns-in-Doomed-clause-rule
returns-in-Doomed-clause-rule c =
    answered_rule c.args.self.now c.abort.new.self c.args.t c.args.e.now Doomed c.abort.result (c.is_declared.ensures.0 c.if-not-is_declared.false) (sym c.check.ensures ∙ c.in-Doomed.is) c.abort.ensures

pub returns-in-StillAborted-clause-rule : goal.returns-in-StillAborted-clause-rule
returns-in-StillAborted-clause-rule c =
    answered_rule c.args.self.now c.args.self.now c.args.t c.args.e.now (StillAborted c.in-StillAborted.cause) _ (c.is_declared.ensures.0 c.if-not-is_declared.false) (sym c.check.ensures ∙ c.in-StillAborted.is)
    (unchanged_rule c.args.self.now (reply.Aborted c.in-StillAborted.cause))

pub returns-in-Passed-clause-rule : goal.returns-in-Passed-clause-rule
returns-in-Passed-clause-rule c = passed_rule c.args.self.now c.rule.new.self c.args.t c.args.e.now c.rule.result (c.is_declared.ensures.0 c.if-not-is_declared.false) (sym c.check.ensures ∙ c.in-Passed.is) c.rule.ensures.rule

pub returns-in-Passed-clause-sure : goal.returns-in-Passed-clause-sure
returns-in-Passed-clause-sure c = λ is none.
    c.rule.ensures.sure (needs-none c.args.self.now c.args.t c.args.e.now c.requires.ordered (c.is_declared.ensures.0 c.if-not-is_declared.false) (sym c.check.ensures ∙ c.in-Passed.is) is none)
