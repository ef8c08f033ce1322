use Rattle.std.proofs.Common.{◌≡◌, ◌<◌, length}
use Rattle.std.specs.Prelude.{IfSome}
use Rattle.std.specs.List.{All}
use Rattle.hek_rules.specs.World.{World}
use Rattle.hek_rules.specs.Walk.{behind, last}
use Rattle.hek_store.specs.Places.{key_versions_left}
use Rattle.hek_rules.specs.declared.event.Aim.TheVariants.{ToRead}
use Rattle.hek_machine.specs.Judgements.{seen_among}
use Rattle.hek_machine.specs.Stands.{StandsFor}
use Rattle.hek_machine.proofs.Along.{last_of}
use Rattle.hek_machine.proofs.WalkRules.{each_judged}
use Rattle.hek_machine.proofs.engine.Engine.judge_along.Given as goal

-- the versions left, judged after the effects so far, give the walk; the last version seen so far is kept
abbrev pub invariant-loop-v : goal.invariant-loop-v
invariant-loop-v l = record {
  left : (w : World) → StandsFor l.self w → behind l.effects.items (each_judged w l.t ToRead (key_versions_left l.v-iterator)) ≡ behind l.fn.effects.items (each_judged w l.t ToRead (key_versions_left l.versions));
  seen : last_of l.seen (seen_among l.self l.t (key_versions_left l.v-iterator)) ≡ last (seen_among l.self l.t (key_versions_left l.versions));
  below : All (λ v. v < length l.self.store.versions) (key_versions_left l.v-iterator);
  known : IfSome l.seen (λ v. v < length l.self.store.versions);
}
