use Rattle.std.proofs.Common.{ℕ, ◌≡◌, ◌<◌, length, take}
use Rattle.std.specs.List.{All}
use Rattle.hek_rules.specs.Listing.{is_among}
use Rattle.hek_deadlock.specs.Places.{id_at}
use Rattle.hek_deadlock.proofs.nodes.places.Given as goal

abbrev pub invariant-loop-waiter : goal.invariant-loop-waiter
invariant-loop-waiter l = record {
  range : All (λ i. i < length l.ids) l.places.items;
  each : (i : ℕ) → i < length l.ids → is_among l.places.items i ≡ is_among (take l.waiter-index l.waiters) (id_at l.ids i);
}
