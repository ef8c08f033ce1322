use Rattle.std.proofs.Common.{◌≡◌, ◌≤◌, take, vec_len, vec_capacity}
use Rattle.std.specs.Prelude.{map}
use Rattle.hek_store.specs.Chained.{keys_of}
use Rattle.hek_store.specs.Indexed.{AreBuckets}
use Rattle.hek_store.proofs.slots.spread_over.Given as goal

abbrev pub invariant-loop-place : goal.invariant-loop-place
invariant-loop-place l = record {
  chained : AreBuckets l.slots (keys_of (take l.place l.versions.items)) l.links.items l.ends.items;
  len : vec_len l.links ≡ l.place;
  room : vec_capacity l.links ≡ vec_capacity l.versions;
}

abbrev pub invariant-loop-slot : goal.invariant-loop-slot
invariant-loop-slot l = record {
  starts : l.starts.items ≡ map (λ e. e.first) (take l.slot l.ends.items);
  len : vec_len l.starts ≡ l.slot;
  room : l.slot-end ≤ vec_capacity l.starts;
}
