use Rattle.std.proofs.Common.{◌≡◌, length}
use Rattle.hek_deadlock.specs.Edges.{is_edge}
use Rattle.hek_deadlock.proofs.GraphRows.{AreRows}
use Rattle.hek_deadlock.proofs.graph.wait_graph.Given as goal

abbrev pub invariant-loop-t : goal.invariant-loop-t
invariant-loop-t l = record {
  count : length l.rows.items ≡ l.t-index;
  rows : AreRows (is_edge l.store l.txns) l.ids l.rows.items;
}
