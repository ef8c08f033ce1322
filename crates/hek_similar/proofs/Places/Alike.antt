-- The laws of alike worlds.
use Rattle.std.proofs.Common.{◌≡◌, ◌<◌, ℕ, ◌+◌, ◌≤◌, List, [], ◌∷◌, refl, ◌∙◌, ap, sym, subst, length, arith}
use Rattle.std.proofs.lemmas.List.{length-map}
use Rattle.std.proofs.lemmas.List.Elements.{All-head, All-tail}
use Rattle.std.specs.List.{All, range_with_len}
use Rattle.std.specs.Prelude.{map, nat_lt}
use Rattle.hek_rules.specs.declared.reply.Reply.{Reply}
use Rattle.hek_rules.specs.declared.reply.Reply.TheVariants as reply
use Rattle.hek_rules.specs.World.{World, Version, txn_in, version_in}
use Rattle.hek_rules.specs.Checks.{clock_end}
use Rattle.hek_rules.specs.declared.event.Event.{Event}
use Rattle.hek_laws.specs.Sound.{Sound}
use Rattle.hek_rules.specs.Run.{next, reply as reply_to, run, transcript}
use Rattle.hek_laws.specs.Runs.{IsPlaced}
use Rattle.hek_laws.proofs.Worlds.Fixed.{fixed-next}
use Rattle.hek_laws.proofs.Runs.Reachable.{reachable-sound, next-reachable}
use Rattle.hek_similar.specs.Similar.{Similar, LookAlike, timeless, timeless_reply, timeless_version, made_time, ended_time}
use Rattle.hek_similar.specs.Places.{Renumbering, IsRenumbering, ScansGroup, renumbered, renumbered_reply, renumbered_versions}
use Rattle.hek_similar.specs.Holdings.{Regrouped, holding}
use Rattle.hek_similar.specs.Alike.{Alike, bare_reply, bare_step}
use Rattle.hek_similar.specs.Laws.{AlikeWorldsAnswerAlike, AlikeRunsAnswerAlike, AlikeWorldsHaveSameRows, AlikeToItself, AlikeBothWays, AlikeInTurn}
use Rattle.hek_similar.proofs.Lists.{same-version, same-length, version-timeless}
use Rattle.hek_similar.proofs.Agree.{similar-alike}
use Rattle.hek_similar.proofs.Forms.{similar-itself, similar-both_ways, similar-in_turn}
use Rattle.hek_similar.proofs.Events.{worlds-alike}
use Rattle.hek_similar.proofs.Runs.{clock-next, same-rows}
use Rattle.hek_similar.proofs.Holdings.Laws.{worlds-regrouped, rows-regrouped, regrouped-itself, regrouped-both_ways, regrouped-in_turn, regrouped-renumbering, renumbered-regrouped, similar-regrouped}
use Rattle.hek_similar.proofs.Holdings.Sound.{sound-regrouped}
use Rattle.hek_similar.proofs.Places.Renumbered.{trades, version-from}
use Rattle.hek_similar.proofs.Places.Kept.{Kept, still-renumbering}
use Rattle.hek_similar.proofs.Places.Runs.{worlds-renumbered, rows-renumbered}
use Rattle.hek_similar.proofs.Places.Inverse.{inverse, both, nothing, is-nothing, map-twice, renumbered-same, both-renumber, renumbered-twice, inverse-renumbers, renumbered-back}
use Rattle.hek_similar.proofs.Places.Sound.{worlds-sound}

-- ---- replies
bare-renumbered : (r : Renumbering) (a : Reply) → bare_reply (renumbered_reply r a) ≡ bare_reply a
bare-renumbered r (reply.ReleasedRead v writer) = refl
bare-renumbered r (reply.StampedBegin v) = refl
bare-renumbered r (reply.StampedEnd v) = refl
bare-renumbered r (reply.Left v) = refl
bare-renumbered r a = refl

bare-timeless : (a : Reply) → bare_reply (timeless_reply a) ≡ bare_reply a
bare-timeless (reply.Began time) = refl
bare-timeless (reply.Precommitted time) = refl
bare-timeless a = refl

-- ---- similar worlds renumbered alike
timeless-renumbered : (r : Renumbering) (w : World) → timeless (renumbered r w) ≡ renumbered r (timeless w)
timeless-renumbered r w =
    ap {A = List Version} {B = World} (λ l. record (timeless (renumbered r w)) { versions = l })
    (map-twice (λ v. version_in w.versions (r.from v)) timeless_version (λ v. version_in (map timeless_version w.versions) (r.from v)) (range_with_len 0 (length w.versions)) (λ v. sym (version-timeless w.versions (r.from v)))
    ∙ ap (λ n. map (λ v. version_in (map timeless_version w.versions) (r.from v)) (range_with_len 0 n)) (sym (length-map w.versions timeless_version)))

similar-kept : (w x : World) → Similar w x → Kept w.versions x.versions
similar-kept w x s =
    let e : map timeless_version w.versions ≡ map timeless_version x.versions = (similar-alike w x s).versions in
    record { longer = let l = same-length timeless_version w.versions x.versions e in omega (arith, l); keys = λ v _. sym (ap (λ y. y.key) (same-version w.versions x.versions e v)) }

pub similar-renumbering : (r : Renumbering) (w x : World) → Similar w x → IsRenumbering r w → IsRenumbering r x
similar-renumbering r w x s i = still-renumbering r w x (similar-kept w x s) i

pub renumbered-similar : (r : Renumbering) (w x : World) → IsRenumbering r w → Similar w x → Similar (renumbered r w) (renumbered r x)
renumbered-similar r w x i s =
    let j : IsRenumbering r x = similar-renumbering r w x s i in
    let at : (v : ℕ) → version_in (renumbered_versions r w.versions) v ≡ version_in w.versions (r.from v) = λ v. version-from r (length w.versions) (trades r w i) w.versions refl v in
    let there : (v : ℕ) → version_in (renumbered_versions r x.versions) v ≡ version_in x.versions (r.from v) = λ v. version-from r (length x.versions) (trades r x j) x.versions refl v in
    record {
      same = timeless-renumbered r w ∙ ap (renumbered r) s.same ∙ sym (timeless-renumbered r x);
      looks = λ t l.
          let k : LookAlike w.versions x.versions w.txns x.txns (txn_in w.txns t).begin (txn_in x.txns t).begin = s.looks t l in
          record {
            made = λ v. ap (λ y. nat_lt (txn_in w.txns t).begin (made_time y.creator)) (at v) ∙ k.made (r.from v) ∙ sym (ap (λ y. nat_lt (txn_in x.txns t).begin (made_time y.creator)) (there v));
            ended = λ v. ap (λ y. nat_lt (txn_in w.txns t).begin (ended_time y.ender)) (at v) ∙ k.ended (r.from v) ∙ sym (ap (λ y. nat_lt (txn_in x.txns t).begin (ended_time y.ender)) (there v));
            prepared = k.prepared;
          };
    }

-- ---- an equivalence
pub alike-itself : AlikeToItself
alike-itself group w = record {
  renumbering = nothing group;
  groups = refl;
  renumbers = is-nothing group w;
  between = w;
  regrouped = subst (λ y. Regrouped y w) (sym (renumbered-same (nothing group) w (is-nothing group w) (λ v. refl))) (regrouped-itself w);
  similar = similar-itself w;
}

pub alike-both_ways : AlikeBothWays
alike-both_ways group w x a =
    let r : Renumbering = a.renumbering in
    let m : World = a.between in
    let back : IsRenumbering (inverse r) (renumbered r w) = inverse-renumbers r w a.renumbers in
    let there : IsRenumbering (inverse r) m = regrouped-renumbering (inverse r) (renumbered r w) m a.regrouped back in
    let old : Regrouped w (renumbered (inverse r) m)
    = subst (λ y. Regrouped y (renumbered (inverse r) m)) (renumbered-back r w a.renumbers) (renumbered-regrouped (inverse r) (renumbered r w) m a.regrouped) in
    let moved = similar-regrouped w (renumbered (inverse r) m) (renumbered (inverse r) x) old (renumbered-similar (inverse r) m x there a.similar) in
    record {
      renumbering = inverse r;
      groups = a.groups;
      renumbers = similar-renumbering (inverse r) m x a.similar there;
      between = holding (renumbered (inverse r) x) w;
      regrouped = regrouped-both_ways (holding (renumbered (inverse r) x) w) (renumbered (inverse r) x) moved.1;
      similar = similar-both_ways w (holding (renumbered (inverse r) x) w) moved.0;
    }

pub alike-in_turn : AlikeInTurn
alike-in_turn group w x y a b =
    let r : Renumbering = a.renumbering in
    let s : Renumbering = b.renumbering in
    let m : World = a.between in
    let one : s.group ≡ r.group = b.groups ∙ sym a.groups in
    let more : IsRenumbering s m = similar-renumbering s x m (similar-both_ways m x a.similar) b.renumbers in
    let first : IsRenumbering s (renumbered r w) = regrouped-renumbering s m (renumbered r w) (regrouped-both_ways (renumbered r w) m a.regrouped) more in
    let k : World = holding (renumbered s m) b.between in
    let moved : Similar b.between k × Regrouped k (renumbered s m)
    = similar-regrouped b.between (renumbered s x) (renumbered s m) (regrouped-both_ways (renumbered s x) b.between b.regrouped)
    (similar-both_ways (renumbered s m) (renumbered s x) (renumbered-similar s m x more a.similar)) in
    record {
      renumbering = both r s;
      groups = a.groups;
      renumbers = both-renumber r s w one a.renumbers first;
      between = k;
      regrouped = regrouped-in_turn (renumbered (both r s) w) (renumbered s m) k
          (subst (λ z. Regrouped z (renumbered s m)) (renumbered-twice r s w one a.renumbers first) (renumbered-regrouped s (renumbered r w) m a.regrouped))
          (regrouped-both_ways k (renumbered s m) moved.1);
      similar = similar-in_turn k b.between y (similar-both_ways b.between k moved.0) b.similar;
    }

-- ---- events, runs, rows
-- the world between is sound
pub between-sound : (group : ℕ → ℕ) (w x : World) (a : Alike group w x) → Sound w → Sound a.between
between-sound group w x a s = sound-regrouped (renumbered a.renumbering w) a.between a.regrouped (worlds-sound a.renumbering w a.renumbers s)

-- the scan of a bucket whose keys are of one group by one renumbering is one by another with the same groups
of-group : (group : ℕ → ℕ) (w x : World) (a : Alike group w x) (e : Event) → ScansGroup group w.buckets e → ScansGroup a.renumbering.group w.buckets e
of-group group w x a e scan = subst (λ f. ScansGroup f w.buckets e) (sym a.groups) scan

-- the world between answers as the first one, but for places
pub between-answers : (group : ℕ → ℕ) (w x : World) (a : Alike group w x) (e : Event) → ScansGroup group w.buckets e → renumbered_reply a.renumbering (reply_to w e) ≡ reply_to a.between e
between-answers group w x a e scan = sym (worlds-renumbered a.renumbering w e a.renumbers (of-group group w x a e scan)).0 ∙ (worlds-regrouped (renumbered a.renumbering w) a.between e a.regrouped).0

pub alike-worlds : AlikeWorldsAnswerAlike
alike-worlds group w x e a here there scan some left =
    let r : Renumbering = a.renumbering in
    let moved = worlds-renumbered r w e a.renumbers (of-group group w x a e scan) in
    let same : (timeless_reply (reply_to a.between e) ≡ timeless_reply (reply_to x e)) × Similar (next a.between e) (next x e)
    = worlds-alike a.between x e a.similar (between-sound group w x a here) there (subst (λ n. n < clock_end) a.regrouped.clock some) left in (
      sym (bare-renumbered r (reply_to w e)) ∙ ap bare_reply (between-answers group w x a e scan)
          ∙ sym (bare-timeless (reply_to a.between e)) ∙ ap bare_reply same.0 ∙ bare-timeless (reply_to x e),
      record {
        renumbering = r;
        groups = a.groups;
        renumbers = moved.2;
        between = next a.between e;
        regrouped = subst (λ y. Regrouped y (next a.between e)) moved.1 (worlds-regrouped (renumbered r w) a.between e a.regrouped).1;
        similar = same.1;
      },
    )

pub alike-runs : AlikeRunsAnswerAlike
alike-runs group w x [] a here there placed scans some left = (refl, a)
alike-runs group w x (e ∷ es) a here there placed scans some left =
    let buckets : w.buckets ≡ x.buckets = a.regrouped.buckets ∙ ap (λ (y : World). y.buckets) a.similar.same in
    let first : IsPlaced w.buckets e = All-head (IsPlaced w.buckets) e es placed in
    let other : IsPlaced x.buckets e = subst (λ n. IsPlaced n e) buckets first in
    let rest : All (IsPlaced (next w e).buckets) es = subst (λ n. All (IsPlaced n) es) (sym (fixed-next w e).buckets) (All-tail (IsPlaced w.buckets) e es placed) in
    let scan : ScansGroup group w.buckets e = All-head (ScansGroup group w.buckets) e es scans in
    let scans_on : All (ScansGroup group (next w e).buckets) es = subst (λ n. All (ScansGroup group n) es) (sym (fixed-next w e).buckets) (All-tail (ScansGroup group w.buckets) e es scans) in
    let k : (next w e).clock ≤ w.clock + 1 = clock-next w e (reachable-sound w here).buckets first in
    let l : (next x e).clock ≤ x.clock + 1 = clock-next x e (reachable-sound x there).buckets other in
    let one : (bare_reply (reply_to w e) ≡ bare_reply (reply_to x e)) × Alike group (next w e) (next x e)
    = alike-worlds group w x e a (reachable-sound w here) (reachable-sound x there) scan (omega arith) (omega arith) in
    let more : (map bare_step (transcript (next w e) es) ≡ map bare_step (transcript (next x e) es)) × Alike group (run (next w e) es) (run (next x e) es)
    = alike-runs group (next w e) (next x e) es one.1 (next-reachable w e here first) (next-reachable x e there other) rest scans_on (omega arith) (omega arith) in
    (ap (λ (q : Reply). (e, q) ∷ map bare_step (transcript (next w e) es)) one.0 ∙ ap (λ l. (e, bare_reply (reply_to x e)) ∷ l) more.0, more.1)

pub alike-rows : AlikeWorldsHaveSameRows
alike-rows group w x a =
    sym (rows-renumbered a.renumbering w a.renumbers)
    ∙ rows-regrouped (renumbered a.renumbering w) a.between a.regrouped
    ∙ same-rows a.between x a.similar
