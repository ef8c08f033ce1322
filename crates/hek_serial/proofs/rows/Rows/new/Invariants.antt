use Rattle.std.proofs.Common.{◌≡◌, [], replicate}
use Rattle.hek_serial.proofs.rows.Rows.new.Given as goal

abbrev pub invariant-loop-bucket : goal.invariant-loop-bucket
invariant-loop-bucket l = l.parts.items ≡ replicate l._bucket []
