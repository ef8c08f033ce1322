use Rattle.std.proofs.Common.{ℕ, ◌+◌}
use Rattle.hek_rules.specs.World.{World}
use Rattle.hek_why.specs.Changes.{each_below, txn_changes, Adds}
use Rattle.hek_why.proofs.difference.add_txns.Given as goal

abbrev pub invariant-loop-place : goal.invariant-loop-place
invariant-loop-place l = Adds l.before l.after (λ (w x : World). each_below (λ (i : ℕ). txn_changes w x (i + 1)) l.place) l.fn.list.items l.list.items
