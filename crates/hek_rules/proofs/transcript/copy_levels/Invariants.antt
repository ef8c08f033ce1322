use Rattle.std.proofs.Common.{◌≡◌, take}
use Rattle.hek_rules.specs.Plan.{levels_of}
use Rattle.hek_rules.proofs.transcript.copy_levels.Given as goal

abbrev pub invariant-loop-place : goal.invariant-loop-place
invariant-loop-place l = l.levels.items ≡ take l.place (levels_of l.schedule)
