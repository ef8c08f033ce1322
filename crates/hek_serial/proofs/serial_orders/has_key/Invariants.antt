use Rattle.std.proofs.Common.{length, ◌≡◌}
use Rattle.hek_serial.specs.SerialOrders.{has_key}
use Rattle.hek_serial.proofs.serial_orders.has_key.Given as goal

abbrev pub invariant-loop-write : goal.invariant-loop-write
invariant-loop-write l = has_key l.writes l.key ≡ has_key l.rest l.key

abbrev pub decreases-loop-write : goal.decreases-loop-write
decreases-loop-write l = length l.rest
