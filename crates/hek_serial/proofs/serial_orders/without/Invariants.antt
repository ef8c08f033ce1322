use Rattle.std.proofs.Common.{length, ◌≡◌, ◌++◌}
use Rattle.hek_serial.specs.SerialOrders.{without}
use Rattle.hek_serial.proofs.serial_orders.without.Given as goal

abbrev pub invariant-loop-u : goal.invariant-loop-u
invariant-loop-u l = without l.t l.left ≡ l.others.items ++ without l.t l.rest

abbrev pub decreases-loop-u : goal.decreases-loop-u
decreases-loop-u l = length l.rest
