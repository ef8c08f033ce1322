use Rattle.std.proofs.Common.{◌<◌, ◌∷◌, suc, length, sym, ◌∙◌, ap, subst, arith, refl, None, Some}
use Rattle.std.specs.Prelude.{if◌then◌else◌}
use Rattle.std.specs.List.{All}
use Rattle.hek_rules.specs.Visibility.{is_seen}
use Rattle.hek_rules.specs.Walk.{behind, last}
use Rattle.hek_store.specs.Places.{key_versions_left}
use Rattle.hek_visible.specs.Seen.{version_seen}
use Rattle.hek_rules.specs.declared.event.Aim.TheVariants.{ToRead}
use Rattle.hek_machine.specs.Judgements.{looks, seen_among}
use Rattle.hek_machine.proofs.Along.{last_of, last_of_all, last_more, below_more}
use Rattle.hek_machine.proofs.WalkRules.{each_judged, first_more, first_refused, by_hidden}
use Rattle.hek_machine.proofs.engine.Engine.judge_along.Goals as goal

pub loop-v-init : goal.loop-v-init
loop-v-init c =
    let m = c.args.self.now in
    let same = c.into_iter-v-iterator.ensures.into_iter_gives in
    record {
      left = λ w s. ap (λ it. behind c.args.effects.now.items (each_judged w c.args.t ToRead (key_versions_left it))) same;
      seen = last_of_all (seen_among m c.args.t (key_versions_left c.into_iter-v-iterator.result)) ∙ ap (λ it. last (seen_among m c.args.t (key_versions_left it))) same;
      below = subst (λ it. All (λ v. v < length m.store.versions) (key_versions_left it)) (sym same) c.requires.versions;
      known = tt;
    }

pub returns-then-is_some-clause-judged : goal.returns-then-is_some-clause-judged
returns-then-is_some-clause-judged c =
    first_refused c.args.self.now c.args.t c.in-Some.v ToRead (key_versions_left c.args.versions) (key_versions_left c.loop-v.v-iterator) (key_versions_left c.next.new.self)
    c.args.effects.now.items c.loop-v.effects.items c.judge_sight.new.effects.items c.in_ok-refused.refused c.in-Some.ensures.steps c.loop-v.invariant.left c.in_ok-refused.ensures
    (sym c.is_some.ensures ∙ c.if-is_some.true)

pub loop-v-preserved : goal.loop-v-preserved
loop-v-preserved c =
    let m = c.args.self.now in
    let first = c.in-Some.ensures.steps in
    let all : All (λ v. v < length m.store.versions) (c.in-Some.v ∷ key_versions_left c.next.new.self) = subst (All (λ v. v < length m.store.versions)) first c.loop-v.invariant.below in
    record {
      left = first_more m c.args.t c.in-Some.v ToRead (key_versions_left c.args.versions) (key_versions_left c.loop-v.v-iterator) (key_versions_left c.next.new.self)
          c.args.effects.now.items c.loop-v.effects.items c.judge_sight.new.effects.items c.in_ok-refused.refused first c.loop-v.invariant.left c.in_ok-refused.ensures
          (sym c.is_some.ensures ∙ c.if-is_some.false);
      seen = last_more (λ v. is_seen (version_seen m.store m.txns c.args.t (looks m c.args.t) v)) c.in-Some.v (key_versions_left c.next.new.self) c.loop-v.seen c.latest-seen.result
          (c.latest-seen.ensures ∙ ap (λ x. if is_seen x then Some c.in-Some.v else c.loop-v.seen) c.sight_at-sight.ensures)
          ∙ ap (λ xs. last_of c.loop-v.seen (seen_among m c.args.t xs)) (sym first) ∙ c.loop-v.invariant.seen;
      below = λ k d l. all (suc k) d (omega (arith, l));
      known = below_more (length m.store.versions) c.in-Some.v (is_seen c.sight_at-sight.result) c.loop-v.seen c.latest-seen.result (all 0 0 (omega arith)) c.loop-v.invariant.known c.latest-seen.ensures;
    }

pub returns-clause-seen : goal.returns-clause-seen
returns-clause-seen c =
    let m = c.args.self.now in
    λ _. sym (ap (λ xs. last_of c.loop-v.seen (seen_among m c.args.t xs)) c.in-None.ensures.steps.0) ∙ c.loop-v.invariant.seen

pub loop-v-preserved-then-is_hidden : goal.loop-v-preserved-then-is_hidden
loop-v-preserved-then-is_hidden c =
    let m = c.args.self.now in
    let first = c.in-Some.ensures.steps in
    let all : All (λ v. v < length m.store.versions) (c.in-Some.v ∷ key_versions_left c.next.new.self) = subst (All (λ v. v < length m.store.versions)) first c.loop-v.invariant.below in
    let hidden = c.is_hidden.ensures c.if-is_hidden.true in
    record {
      left = first_more m c.args.t c.in-Some.v ToRead (key_versions_left c.args.versions) (key_versions_left c.loop-v.v-iterator) (key_versions_left c.next.new.self)
          c.args.effects.now.items c.loop-v.effects.items c.loop-v.effects.items None first c.loop-v.invariant.left
          (by_hidden m c.args.t c.in-Some.v ToRead c.loop-v.effects.items (sym c.sight_at-sight.ensures ∙ hidden)) refl;
      seen = last_more (λ v. is_seen (version_seen m.store m.txns c.args.t (looks m c.args.t) v)) c.in-Some.v (key_versions_left c.next.new.self) c.loop-v.seen c.loop-v.seen
          (ap (λ x. if is_seen x then Some c.in-Some.v else c.loop-v.seen) (sym hidden ∙ c.sight_at-sight.ensures))
          ∙ ap (λ xs. last_of c.loop-v.seen (seen_among m c.args.t xs)) (sym first) ∙ c.loop-v.invariant.seen;
      below = λ k d l. all (suc k) d (omega (arith, l));
      known = c.loop-v.invariant.known;
    }
