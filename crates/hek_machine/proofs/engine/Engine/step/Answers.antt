use Rattle.std.proofs.Common.{sym, subst, IfOk}
use Rattle.hek_rules.specs.Table.{outcome}
use Rattle.hek_machine.specs.Stands.{IsRule}
use Rattle.hek_machine.proofs.engine.Engine.step.Goals as goal

pub returns-clause-rule : goal.returns-clause-rule
returns-clause-rule c =
    subst (λ m. IfOk c.answer-answered.result (IsRule (λ w. outcome w c.args.e.now) c.args.self.now m)) (sym c.pass_over.ensures) c.answer-answered.ensures.rule
