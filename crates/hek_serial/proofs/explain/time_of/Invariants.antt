use Rattle.std.proofs.Common.{◌≡◌, drop}
use Rattle.hek_serial.specs.Explained.{time_in}
use Rattle.hek_serial.proofs.explain.time_of.Given as goal

abbrev pub invariant-loop-pair : goal.invariant-loop-pair
invariant-loop-pair l = time_in (drop l.pair-index l.order) l.t ≡ time_in l.order l.t
