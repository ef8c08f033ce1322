use Rattle.std.proofs.Common.{refl}
use Rattle.hek_machine.proofs.StepRules.{early}
use Rattle.hek_machine.proofs.engine.Engine.rule.Goals as goal

pub begin-requires-clause-early : goal.begin-requires-clause-early
begin-requires-clause-early c = early c.args.self.now c.args.t c.args.e.now c.requires.ordered c.requires.passed (rw c.in-Begin.is refl)

pub precommit-requires-clause-early : goal.precommit-requires-clause-early
precommit-requires-clause-early c = early c.args.self.now c.args.t c.args.e.now c.requires.ordered c.requires.passed (rw c.in-Precommit.is refl)

pub returns-in-Read-clause-rule : goal.returns-in-Read-clause-rule
returns-in-Read-clause-rule c = rw c.in-Read.is c.read.ensures.rule

pub returns-in-Scan-clause-rule : goal.returns-in-Scan-clause-rule
returns-in-Scan-clause-rule c = rw c.in-Scan.is c.scan.ensures.rule

pub returns-in-Insert-clause-rule : goal.returns-in-Insert-clause-rule
returns-in-Insert-clause-rule c = rw c.in-Insert.is c.insert.ensures.rule

pub returns-in-Update-clause-rule : goal.returns-in-Update-clause-rule
returns-in-Update-clause-rule c = rw c.in-Update.is c.update.ensures.rule

pub returns-in-Delete-clause-rule : goal.returns-in-Delete-clause-rule
returns-in-Delete-clause-rule c = rw c.in-Delete.is c.delete.ensures.rule
