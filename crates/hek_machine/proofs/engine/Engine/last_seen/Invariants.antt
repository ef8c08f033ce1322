use Rattle.std.proofs.Common.{◌≡◌, ◌≤◌, [], drop, length}
use Rattle.hek_machine.specs.Judgements.{seen_among}
use Rattle.hek_machine.proofs.engine.Engine.last_seen.Given as goal

abbrev pub decreases-loop-left : goal.decreases-loop-left
decreases-loop-left l = l.left

abbrev pub invariant-loop-left : goal.invariant-loop-left
invariant-loop-left l = record {
  within : l.left ≤ length l.vs;
  none : seen_among l.self l.t (drop l.left l.vs) ≡ [];
}
