use Rattle.std.proofs.Common.{◌≡◌, ℕ, List, Some}
use Rattle.std.specs.Io.Iter.{lines_known_bytes}
use Rattle.hek_convert_command.specs.Logged.{HasRead}
use Rattle.hek_convert_command.proofs.entries.read_entries.Given as goal

-- so many lines are read
abbrev pub invariant-loop-line : goal.invariant-loop-line
invariant-loop-line g l =
    (text : List ℕ) → g.B.Read.remaining l.fn.lines ≡ Some text → HasRead text (lines_known_bytes g.B.Read.remaining l.line-iterator) l.number l.listed.items
