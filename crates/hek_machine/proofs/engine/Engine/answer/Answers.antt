use Rattle.std.proofs.Common.{ap, sym, ◌∙◌}
use Rattle.hek_rules.specs.Table.{checked, outcome, outcome_of}
use Rattle.hek_machine.proofs.KeyRules.{rule_of_last}
use Rattle.hek_machine.proofs.engine.Engine.answer.Goals as goal

pub returns-in-Some-clause-rule : goal.returns-in-Some-clause-rule
returns-in-Some-clause-rule c =
    rule_of_last c.args.self.now c.step_of.new.self (λ w. outcome w c.args.e.now) (λ w. checked w c.in-Some.t c.args.e.now) c.step_of.result
    (λ w s. ap (outcome_of w c.args.e.now) (sym c.txn.ensures ∙ c.in-Some.is)) c.step_of.ensures.rule
