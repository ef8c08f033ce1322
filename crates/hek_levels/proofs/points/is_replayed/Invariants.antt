use Rattle.std.specs.HashMap.{get}
use Rattle.std.specs.Prelude.{◌==◌}
use Rattle.hek_levels.specs.Points.{IsReplay}
use Rattle.hek_levels.specs.Rows.{row_of}
use Rattle.hek_levels.proofs.points.is_replayed.Given as goal

abbrev pub invariant-loop-point : goal.invariant-loop-point
invariant-loop-point l = IsReplay l.asked l.log l.order l.replay.count (row_of l.replay.rows) (get ◌==◌ l.replay.begun) (get ◌==◌ l.replay.last) (get ◌==◌ l.replay.looking)
