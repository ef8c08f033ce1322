use Rattle.std.proofs.Common.{◌≡◌, false, drop}
use Rattle.std.specs.List.{list_any}
use Rattle.hek_txn.proofs.entry_sets.take_behind.Given as goal

-- none of the members from the place on is the item
abbrev pub invariant-loop-place : goal.invariant-loop-place
invariant-loop-place g l = record { kept : l.items ≡ l.fn.items; none : list_any (g.T.PartialEq.eq l.item) (drop l.place l.items.items) ≡ false }
