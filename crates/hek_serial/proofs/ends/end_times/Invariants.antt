use Rattle.std.proofs.Common.{take}
use Rattle.std.specs.List.{zip}
use Rattle.hek_serial.specs.Ends.{AreEnds}
use Rattle.hek_serial.proofs.ends.end_times.Given as goal

abbrev pub invariant-loop-i : goal.invariant-loop-i
invariant-loop-i l = AreEnds (take l.i (zip l.events l.replies)) l.ends
