use Rattle.std.proofs.Common.{ℕ, List, length, ◌≡◌, ◌∷◌, true}
use Rattle.std.specs.List.{zip}
use Rattle.hek_rules.specs.Listing.{is_among}
use Rattle.hek_serial.specs.SerialOrders.{IsSerialFrom}
use Rattle.hek_serial.proofs.serial_orders.+search.Given as goal

abbrev pub decreases-search : goal.decreases-search
decreases-search l = length l.left.now

abbrev pub invariant-loop-t : goal.invariant-loop-t
invariant-loop-t l =
    record {
      rows : l.rows ≡ l.fn.rows;
      untried : (u : ℕ) (ts : List ℕ) → IsSerialFrom l.fn.rows.buckets (zip l.events l.replies) l.fn.rows.rows l.left (u ∷ ts) → is_among l.untried u ≡ true;
    }

abbrev pub decreases-loop-t : goal.decreases-loop-t
decreases-loop-t l = length l.untried
