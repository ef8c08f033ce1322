use Rattle.std.proofs.Common.{◌≡◌, drop}
use Rattle.hek_levels.specs.Logs.{left_in}
use Rattle.hek_levels.proofs.logged.left.Given as goal

abbrev pub invariant-loop-change : goal.invariant-loop-change
invariant-loop-change l = left_in (drop l.change-index l.changes) l.key ≡ left_in l.changes l.key
