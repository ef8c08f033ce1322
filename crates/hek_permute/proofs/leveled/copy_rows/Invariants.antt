use Rattle.std.proofs.Common.{◌≡◌, take}
use Rattle.hek_permute.proofs.leveled.copy_rows.Given as goal

abbrev pub invariant-loop-place : goal.invariant-loop-place
invariant-loop-place l = l.made ≡ record l.fn.made { rows = take l.place l.schedule.rows }
