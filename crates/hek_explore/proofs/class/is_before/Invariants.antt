use Rattle.std.proofs.Common.{length}
use Rattle.hek_explore.specs.Counts.{IsBefore}
use Rattle.hek_explore.proofs.class.is_before.Given as goal

abbrev pub invariant-loop-mover : goal.invariant-loop-mover
invariant-loop-mover l = IsBefore l.rest l.others_rest → IsBefore l.beginning l.other

abbrev pub decreases-loop-mover : goal.decreases-loop-mover
decreases-loop-mover l = length l.rest
