use Rattle.std.proofs.Common.{◌≡◌, ◌++◌, drop, map}
use Rattle.std.specs.Fmt.{decimal}
use Rattle.hek_rules.specs.Lines.{spaced}
use Rattle.hek_step_report.proofs.text.putting.put_version_members.Given as goal

-- with the members left, the lines would be what the contract asks
abbrev pub invariant-loop-v : goal.invariant-loop-v
invariant-loop-v l = l.lines.items ++ spaced (map decimal (drop l.v-index l.versions)) ≡ l.fn.lines.items ++ spaced (map decimal l.versions)
