use Rattle.std.proofs.Common.{length, ◌-◌, ◌<◌}
use Rattle.std.specs.Prelude.{slice_index}
use Rattle.hek_permute.proofs.order.last_above.Given as goal

abbrev pub invariant-loop-place : goal.invariant-loop-place
invariant-loop-place l = (l.place < length l.tail) × (l.less < slice_index l.tail l.place)

abbrev pub decreases-loop-place : goal.decreases-loop-place
decreases-loop-place l = length l.tail - l.place
