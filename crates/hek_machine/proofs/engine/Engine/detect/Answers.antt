use Rattle.std.proofs.Common.{sym, ◌∙◌}
use Rattle.hek_machine.proofs.DetectRules.{rule_of_none, rule_of_victim}
use Rattle.hek_machine.proofs.engine.Engine.detect.Goals as goal

pub returns-in-None-clause-rule : goal.returns-in-None-clause-rule
returns-in-None-clause-rule c = rule_of_none c.args.self.now (sym c.in-None.is ∙ c.in_ok-detect.ensures.victim)

pub returns-in-Some-clause-rule : goal.returns-in-Some-clause-rule
returns-in-Some-clause-rule c = rule_of_victim c.args.self.now c.abort.new.self _ _ c.abort.result (sym c.in-Some.is ∙ c.in_ok-detect.ensures.victim) c.abort.ensures
