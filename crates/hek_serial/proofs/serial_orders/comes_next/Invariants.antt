use Rattle.std.proofs.Common.{length, ◌≡◌}
use Rattle.std.specs.List.{zip}
use Rattle.hek_serial.specs.SerialOrders.{comes_next}
use Rattle.hek_serial.proofs.serial_orders.comes_next.Given as goal

abbrev pub invariant-loop-u : goal.invariant-loop-u
invariant-loop-u l = comes_next (zip l.events l.replies) l.left l.t ≡ comes_next (zip l.events l.replies) l.rest l.t

abbrev pub decreases-loop-u : goal.decreases-loop-u
decreases-loop-u l = length l.rest
