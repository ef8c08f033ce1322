use Rattle.std.proofs.Common.{take}
use Rattle.hek_permute.specs.Moves.{counts_of}
use Rattle.hek_permute.specs.Numbers.{IsCount}
use Rattle.hek_permute.proofs.number.count_of.Given as goal

abbrev pub invariant-loop-of_one : goal.invariant-loop-of_one
invariant-loop-of_one l = IsCount (counts_of l.form (take l.of_one-index l.moves)) l.count.moves l.count.orders
