use Rattle.std.proofs.Common.{drop}
use Rattle.hek_debug_command.specs.Debugged.{session_text}
use Rattle.hek_report.specs.Sent.{Passes}
use Rattle.hek_debug_command.proofs.debug.do_all.Given as goal

-- what is written, with the answers to the commands left, is the whole answer
abbrev pub invariant-loop-command : goal.invariant-loop-command
invariant-loop-command g l = Passes (g.W.Write.contents l.fn.out) (session_text l.fn.debugger l.commands) (g.W.Write.contents l.out) (session_text l.debugger (drop l.command-index l.commands))
