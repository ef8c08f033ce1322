use Rattle.std.proofs.Common.{◌≡◌, take}
use Rattle.hek_permute.specs.Moves.{counts_of}
use Rattle.hek_explore.proofs.walk.counts_of.Given as goal

abbrev pub invariant-loop-of_one : goal.invariant-loop-of_one
invariant-loop-of_one l = l.counts.items ≡ counts_of l.form (take l.of_one-index l.moves)
