use Rattle.std.proofs.Common.{◌≡◌, sum, take}
use Rattle.hek_explore.proofs.walk.sum_of.Given as goal

abbrev pub invariant-loop-count : goal.invariant-loop-count
invariant-loop-count l = l.all ≡ sum (take l.count-index l.counts)
