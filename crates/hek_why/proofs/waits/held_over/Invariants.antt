use Rattle.hek_rules.specs.World.{World}
use Rattle.hek_rules.specs.Waits.{is_waited_for}
use Rattle.hek_why.proofs.Finds.{Finds}
use Rattle.hek_why.proofs.waits.held_over.Given as goal

abbrev pub invariant-loop-index : goal.invariant-loop-index
invariant-loop-index l = Finds l.machine (λ (w : World). is_waited_for w.read_locks l.u) l.versions.items l.index
