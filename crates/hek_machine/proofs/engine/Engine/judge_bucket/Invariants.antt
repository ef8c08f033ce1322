use Rattle.std.proofs.Common.{◌≡◌, ◌<◌, ◌++◌, length}
use Rattle.std.specs.List.{All}
use Rattle.hek_rules.specs.World.{World}
use Rattle.hek_rules.specs.Walk.{behind}
use Rattle.hek_store.specs.Places.{versions_left}
use Rattle.hek_rules.specs.declared.event.Aim.TheVariants.{ToRead}
use Rattle.hek_machine.specs.Judgements.{seen_among}
use Rattle.hek_machine.specs.Stands.{StandsFor}
use Rattle.hek_machine.proofs.WalkRules.{each_judged}
use Rattle.hek_machine.proofs.engine.Engine.judge_bucket.Given as goal

-- the versions left, judged after the effects so far, give the walk; those seen of them follow those listed
abbrev pub invariant-loop-v : goal.invariant-loop-v
invariant-loop-v l = record {
  left : (w : World) → StandsFor l.self w → behind l.effects.items (each_judged w l.t ToRead (versions_left l.v-iterator)) ≡ behind l.fn.effects.items (each_judged w l.t ToRead (versions_left l.versions));
  seen : l.seen.items ++ seen_among l.self l.t (versions_left l.v-iterator) ≡ seen_among l.self l.t (versions_left l.versions);
  below : All (λ v. v < length l.self.store.versions) (versions_left l.v-iterator);
  known : All (λ v. v < length l.self.store.versions) l.seen.items;
}
