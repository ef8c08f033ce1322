use Rattle.std.proofs.Common.{◌≡◌, ◌<◌, ◌≤◌, ◌-◌, take, length, true}
use Rattle.std.specs.List.{zip}
use Rattle.hek_rules.specs.Serial.{writes_of}
use Rattle.hek_serial.specs.Links.{comes_at}
use Rattle.hek_serial.proofs.serial_orders.writes_by.Given as goal

abbrev pub invariant-loop-at : goal.invariant-loop-at
invariant-loop-at l =
    record {
      within : l.at ≤ length l.events;
      here : l.at < length l.events → comes_at l.t l.events l.at ≡ true;
      writes : l.writes.items ≡ writes_of l.t (take l.at (zip l.events l.replies));
    }

abbrev pub decreases-loop-at : goal.decreases-loop-at
decreases-loop-at l = length l.events - l.at
