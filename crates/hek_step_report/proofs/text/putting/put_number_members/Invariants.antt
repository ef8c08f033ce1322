use Rattle.std.proofs.Common.{◌≡◌, ◌++◌, drop, map}
use Rattle.std.specs.Fmt.{decimal}
use Rattle.hek_rules.specs.Lines.{spaced}
use Rattle.hek_step_report.proofs.text.putting.put_number_members.Given as goal

-- with the members left, the lines would be what the contract asks
abbrev pub invariant-loop-number : goal.invariant-loop-number
invariant-loop-number l = l.lines.items ++ spaced (map decimal (drop l.number-index l.numbers)) ≡ l.fn.lines.items ++ spaced (map decimal l.numbers)
