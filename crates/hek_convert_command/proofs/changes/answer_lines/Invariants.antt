use Rattle.std.proofs.Common.{take}
use Rattle.hek_convert_command.specs.Answering.{Answering}
use Rattle.hek_convert_command.proofs.changes.answer_lines.Given as goal

-- the lines before this one are answered
abbrev pub invariant-loop-line : goal.invariant-loop-line
invariant-loop-line g l = Answering l.fn.printing l.fn.followed (take l.line-index l.listed) l.book (g.W.Write.contents l.fn.out) (g.W.Write.contents l.out) l.status
