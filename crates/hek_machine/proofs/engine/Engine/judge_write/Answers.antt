use Rattle.std.proofs.Common.{sym, ◌∙◌}
use Rattle.hek_machine.proofs.WalkRules.{write_allowed, write_denied, writer_known}
use Rattle.hek_machine.proofs.engine.Engine.judge_write.Goals as goal

pub can_write_lock-requires-clause-writer : goal.can_write_lock-requires-clause-writer
can_write_lock-requires-clause-writer c = writer_known c.args.self.now c.args.v c.requires.ordered

pub returns-in-Ok : goal.returns-in-Ok
returns-in-Ok c = write_allowed c.args.self.now c.args.v _ (sym c.can_write_lock.ensures ∙ c.in-Ok.is)

pub returns-in-Err : goal.returns-in-Err
returns-in-Err c = write_denied c.args.self.now c.args.v c.in-Err.cause (sym c.can_write_lock.ensures ∙ c.in-Err.is)
