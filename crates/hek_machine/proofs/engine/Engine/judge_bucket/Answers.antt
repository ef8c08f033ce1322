use Rattle.std.proofs.Common.{◌<◌, ◌++◌, ◌∷◌, [], suc, length, sym, ◌∙◌, ap, subst, arith, refl, None, append-nil}
use Rattle.std.specs.Prelude.{if◌then◌else◌}
use Rattle.std.specs.List.{All}
use Rattle.hek_rules.specs.Visibility.{is_seen}
use Rattle.hek_store.specs.Places.{versions_left}
use Rattle.hek_visible.specs.Seen.{version_seen}
use Rattle.hek_rules.specs.declared.event.Aim.TheVariants.{ToRead}
use Rattle.hek_machine.specs.Judgements.{looks, seen_among}
use Rattle.hek_machine.proofs.Along.{listed_more, all_below_more}
use Rattle.hek_machine.proofs.WalkRules.{first_more, first_refused, by_hidden}
use Rattle.hek_machine.proofs.engine.Engine.judge_bucket.Goals as goal

pub returns-then-is_some-clause-judged : goal.returns-then-is_some-clause-judged
returns-then-is_some-clause-judged c =
    first_refused c.args.self.now c.args.t c.in-Some.v ToRead (versions_left c.args.versions) (versions_left c.loop-v.v-iterator) (versions_left c.next.new.self)
    c.args.effects.now.items c.loop-v.effects.items c.judge_sight.new.effects.items c.in_ok-refused.refused c.in-Some.ensures.steps c.loop-v.invariant.left c.in_ok-refused.ensures
    (sym c.is_some.ensures ∙ c.if-is_some.true)

pub returns-then-is_some-clause-below : goal.returns-then-is_some-clause-below
returns-then-is_some-clause-below c =
    let n = length c.args.self.now.store.versions in
    let all : All (λ v. v < n) (c.in-Some.v ∷ versions_left c.next.new.self) = subst (All (λ v. v < n)) c.in-Some.ensures.steps c.loop-v.invariant.below in
    all_below_more n c.in-Some.v (is_seen c.sight_at-sight.result) c.loop-v.seen.items c.note.new.seen.items (all 0 0 (omega arith)) c.loop-v.invariant.known c.in_ok-note.ensures

pub loop-v-preserved : goal.loop-v-preserved
loop-v-preserved c =
    let m = c.args.self.now in
    let n = length m.store.versions in
    let first = c.in-Some.ensures.steps in
    let all : All (λ v. v < n) (c.in-Some.v ∷ versions_left c.next.new.self) = subst (All (λ v. v < n)) first c.loop-v.invariant.below in
    record {
      left = first_more m c.args.t c.in-Some.v ToRead (versions_left c.args.versions) (versions_left c.loop-v.v-iterator) (versions_left c.next.new.self)
          c.args.effects.now.items c.loop-v.effects.items c.judge_sight.new.effects.items c.in_ok-refused.refused first c.loop-v.invariant.left c.in_ok-refused.ensures
          (sym c.is_some.ensures ∙ c.if-is_some.false);
      seen = listed_more (λ v. is_seen (version_seen m.store m.txns c.args.t (looks m c.args.t) v)) c.in-Some.v (versions_left c.next.new.self) c.loop-v.seen.items c.note.new.seen.items
          (c.in_ok-note.ensures ∙ ap (λ x. c.loop-v.seen.items ++ (if is_seen x then c.in-Some.v ∷ [] else [])) c.sight_at-sight.ensures)
          ∙ ap (λ xs. c.loop-v.seen.items ++ seen_among m c.args.t xs) (sym first) ∙ c.loop-v.invariant.seen;
      below = λ k d l. all (suc k) d (omega (arith, l));
      known = all_below_more n c.in-Some.v (is_seen c.sight_at-sight.result) c.loop-v.seen.items c.note.new.seen.items (all 0 0 (omega arith)) c.loop-v.invariant.known c.in_ok-note.ensures;
    }

pub loop-v-preserved-then-is_hidden : goal.loop-v-preserved-then-is_hidden
loop-v-preserved-then-is_hidden c =
    let m = c.args.self.now in
    let n = length m.store.versions in
    let first = c.in-Some.ensures.steps in
    let all : All (λ v. v < n) (c.in-Some.v ∷ versions_left c.next.new.self) = subst (All (λ v. v < n)) first c.loop-v.invariant.below in
    let hidden = c.is_hidden.ensures c.if-is_hidden.true in
    record {
      left = first_more m c.args.t c.in-Some.v ToRead (versions_left c.args.versions) (versions_left c.loop-v.v-iterator) (versions_left c.next.new.self)
          c.args.effects.now.items c.loop-v.effects.items c.loop-v.effects.items None first c.loop-v.invariant.left
          (by_hidden m c.args.t c.in-Some.v ToRead c.loop-v.effects.items (sym c.sight_at-sight.ensures ∙ hidden)) refl;
      seen = listed_more (λ v. is_seen (version_seen m.store m.txns c.args.t (looks m c.args.t) v)) c.in-Some.v (versions_left c.next.new.self) c.loop-v.seen.items c.loop-v.seen.items
          (sym (append-nil c.loop-v.seen.items)
          ∙ ap (λ x. c.loop-v.seen.items ++ (if is_seen x then c.in-Some.v ∷ [] else [])) (sym hidden ∙ c.sight_at-sight.ensures))
          ∙ ap (λ xs. c.loop-v.seen.items ++ seen_among m c.args.t xs) (sym first) ∙ c.loop-v.invariant.seen;
      below = λ k d l. all (suc k) d (omega (arith, l));
      known = c.loop-v.invariant.known;
    }
