use Rattle.hek_deadlock.proofs.Rising.{AreNodes}
use Rattle.hek_deadlock.proofs.nodes.nodes.Given as goal

abbrev pub invariant-loop-t : goal.invariant-loop-t
invariant-loop-t l = AreNodes l.txns l.t l.ids.items
