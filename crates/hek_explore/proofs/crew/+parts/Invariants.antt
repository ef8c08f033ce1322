use Prim.Native.Nat.{◌+◌, ◌*◌}
use Rattle.hek_explore.proofs.crew.+parts.Given as goal

abbrev pub decreases-grow_parts : goal.decreases-grow_parts
decreases-grow_parts g l = 2 * l.jobs

abbrev pub decreases-first : goal.decreases-first
decreases-first g l = 2 * l.left + 1

abbrev pub decreases-second : goal.decreases-second
decreases-second g l = 2 * l.right + 1
