use Rattle.std.proofs.Common.{◌≡◌, ℕ, ◌||◌, ◌&&◌, take}
use Rattle.hek_rules.specs.Listing.{is_among}
use Rattle.hek_deadlock.specs.Edges.{is_other_node}
use Rattle.hek_deadlock.proofs.graph.add_waiters.Given as goal

abbrev pub invariant-loop-u : goal.invariant-loop-u
invariant-loop-u l = (u : ℕ) → is_among l.row.items u ≡ (is_among l.fn.row.items u || (is_among (take l.u-index l.waiters) u && is_other_node l.txns l.t u))
