use Rattle.std.proofs.Common.{◌≡◌, ℕ, ◌||◌, ◌&&◌, take}
use Rattle.hek_rules.specs.Listing.{is_among}
use Rattle.hek_deadlock.specs.Edges.{is_other_node, writes_one}
use Rattle.hek_deadlock.proofs.graph.add_writers.Given as goal

abbrev pub invariant-loop-v : goal.invariant-loop-v
invariant-loop-v l = (u : ℕ) → is_among l.row.items u ≡ (is_among l.fn.row.items u || (writes_one l.store (take l.v-index l.versions) u && is_other_node l.txns l.t u))
