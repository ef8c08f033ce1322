use Rattle.std.proofs.Common.{◌≡◌, ◌+◌}
use Rattle.hek_permute.proofs.Counting.{passed}
use Rattle.hek_permute.proofs.number.first_move.Given as goal

abbrev pub invariant-loop-place : goal.invariant-loop-place
invariant-loop-place l = l.number + passed l.counts l.moves l.place ≡ l.rank.number
