use Rattle.std.proofs.Common.{sym, ◌∙◌}
use Rattle.hek_machine.proofs.WalkRules.{read_allowed, read_denied, writer_known}
use Rattle.hek_machine.proofs.engine.Engine.judge_read_lock.Goals as goal

pub can_read_lock-requires-clause-writer : goal.can_read_lock-requires-clause-writer
can_read_lock-requires-clause-writer c = writer_known c.args.self.now c.args.v c.requires.ordered

pub returns-in-Ok : goal.returns-in-Ok
returns-in-Ok c = read_allowed c.args.self.now c.args.t c.args.v _ (sym c.can_read_lock.ensures ∙ c.in-Ok.is)

pub returns-in-Err : goal.returns-in-Err
returns-in-Err c = read_denied c.args.self.now c.args.t c.args.v c.in-Err.cause (sym c.can_read_lock.ensures ∙ c.in-Err.is)
