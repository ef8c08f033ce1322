use Rattle.std.proofs.Common.{◌≡◌, ◌++◌, drop}
use Rattle.hek_levels.specs.Points.{commits_of}
use Rattle.hek_levels.proofs.points.commits_of.Given as goal

abbrev pub invariant-loop-point : goal.invariant-loop-point
invariant-loop-point l = l.order.items ++ commits_of (drop l.point-index l.points) ≡ commits_of l.points
