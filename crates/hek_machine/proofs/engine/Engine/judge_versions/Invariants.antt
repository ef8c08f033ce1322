use Rattle.std.proofs.Common.{◌≡◌, drop}
use Rattle.hek_rules.specs.World.{World}
use Rattle.hek_rules.specs.Walk.{behind}
use Rattle.hek_machine.specs.Stands.{StandsFor}
use Rattle.hek_machine.proofs.WalkRules.{each_judged}
use Rattle.hek_machine.proofs.engine.Engine.judge_versions.Given as goal

-- the versions left, judged after the effects so far, give the walk
abbrev pub invariant-loop-v : goal.invariant-loop-v
invariant-loop-v l = record {
  left : (w : World) → StandsFor l.self w → behind l.effects.items (each_judged w l.t l.aim (drop l.v-index l.vs)) ≡ behind l.fn.effects.items (each_judged w l.t l.aim l.vs);
}
