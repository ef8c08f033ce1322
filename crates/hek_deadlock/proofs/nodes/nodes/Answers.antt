use Rattle.std.proofs.Common.{◌∙◌, sym, ap}
use Rattle.hek_deadlock.proofs.Rising.{nodes_more, nodes_skip}
use Rattle.hek_deadlock.proofs.nodes.nodes.Goals.{then-is_node+in_ok-push, else-is_node}
use Rattle.hek_deadlock.proofs.nodes.nodes.Goals as goal

pub loop-t-preserved : goal.loop-t-preserved
loop-t-preserved c =
    elim c.if-is_node.branch [
      | then-is_node+in_ok-push w ↦
          nodes_more c.args.txns.now c.loop-t.t c.new-id.result c.loop-t.ids.items c.if-is_node.ids.items c.loop-t.invariant c.new-id.ensures (sym w.if-is_node.ensures.value)
          (ap (λ v. v.items) w.ids-is ∙ w.in_ok-push.ensures.items)
      | else-is_node w ↦
          rw (w.ids-is) (nodes_skip c.args.txns.now c.loop-t.t c.new-id.result c.loop-t.ids.items c.loop-t.invariant c.new-id.ensures (sym w.if-is_node.ensures.value))
    ]
