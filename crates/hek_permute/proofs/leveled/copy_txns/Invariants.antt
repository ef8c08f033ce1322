use Rattle.std.proofs.Common.{◌≡◌, take}
use Rattle.std.specs.List.{zip}
use Rattle.hek_rules.specs.Plan.{names_of}
use Rattle.hek_permute.specs.Leveled.{levels_at}
use Rattle.hek_permute.proofs.leveled.copy_txns.Given as goal

abbrev pub invariant-loop-place : goal.invariant-loop-place
invariant-loop-place l = l.made ≡ record l.fn.made { txns = take l.place (zip (names_of l.schedule) (levels_at l.level l.schedule)) }
