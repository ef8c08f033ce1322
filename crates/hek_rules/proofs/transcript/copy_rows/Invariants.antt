use Rattle.std.proofs.Common.{◌≡◌, take}
use Rattle.hek_rules.proofs.transcript.copy_rows.Given as goal

abbrev pub invariant-loop-place : goal.invariant-loop-place
invariant-loop-place l = l.rows.items ≡ take l.place l.schedule.rows
