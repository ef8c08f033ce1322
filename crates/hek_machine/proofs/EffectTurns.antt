-- The effects of an allowed walk, one after another: each may be done when its turn comes.
use Rattle.std.proofs.Common.{◌≡◌, ℕ, ◌+◌, ◌<◌, ◌≤◌, ◌^◌, Bool, true, false, List, [], ◌∷◌, ◌++◌, refl, ◌∙◌, ap, sym, subst, arith, inl, inr, ⊎_elim, length, take, drop, get_or}
use Rattle.std.proofs.lemmas.Bool.{cond_both}
use Rattle.std.proofs.lemmas.List.{take_more, drop_more, take-append-drop}
use Rattle.hek_rules.specs.declared.event.Effect.{Effect}
use Rattle.hek_rules.specs.declared.event.Effect.TheVariants.{LockBucket, DependOn, MakeWait, ReadLock, WriteLock}
use Rattle.hek_rules.specs.declared.event.State.{State}
use Rattle.hek_rules.specs.declared.event.State.TheVariants as state
use Rattle.hek_rules.specs.World.{World, Version, version_in, txn_in, places, is_active, is_preparing, is_aborted, is_not_begun}
use Rattle.hek_rules.specs.Walk.{apply, apply_all}
use Rattle.hek_laws.specs.Lists.{In}
use Rattle.hek_laws.specs.Sound.{Sound, is_held}
use Rattle.hek_laws.proofs.Sound.InWalks.{part-sound, read-turn, write-turn, is-walking}
use Rattle.hek_laws.proofs.Sound.WaitsFall.{length-walked}
use Rattle.hek_laws.proofs.Sound.WordsAndSights.{sound-seen}
use Rattle.hek_laws.proofs.Sound.Flags.{held-cleared}
use Rattle.hek_laws.proofs.Table.Unchanged.{apply_all-times}
use Rattle.hek_laws.proofs.Walks.Judged.{In-right}
use Rattle.hek_laws.proofs.Walks.Walking.{Walking, moved, walking-first}
use Rattle.hek_txn.specs.TxnTable.{read_set_of, write_set_of, waiting_list_of, bucket_set_of}
use Rattle.hek_refinement.proofs.Known.{begun-known}
use Rattle.hek_machine.specs.declared.engine.Engine.{Engine}
use Rattle.hek_machine.specs.Stands.{Shows, StandsFor, StandsForSome}
use Rattle.hek_machine.specs.Room.{HasRoom, KeepsRoom, KeepsAdding, IsEffectReady, reads_in, writes_in, wait_effects, buckets_in}
use Rattle.hek_machine.specs.Applied.{May, CanApply, IsAble, Applies, Allowed}
use Rattle.hek_machine.proofs.Needs.{reads-first, writes-first, waits-first, buckets-first}

-- ---- places of a list that passed a test

below : (test : ℕ → Version → Bool) (i v : ℕ) (xs : List Version) → In v (places test i xs) → v < i + length xs
below test i v [] h = absurd h
below test i v (x ∷ xs) h =
    cond_both (test i x) (i ∷ places test (i + 1) xs) (places test (i + 1) xs) (λ ys. In v ys → v < i + length (x ∷ xs))
    (λ _ k. ⊎_elim (λ e. omega (arith, e)) (λ r. let l = below test (i + 1) v xs r in omega (arith, l)) k)
    (λ _ r. let l = below test (i + 1) v xs r in omega (arith, l)) h

-- ---- one turn

begun_active : (s : State) → is_active s ≡ true → is_not_begun s ≡ false
begun_active state.NotBegun h = cc
begun_active state.Active h = refl
begun_active state.Preparing h = refl
begun_active state.Committed h = refl
begun_active (state.Aborted cause) h = refl
begun_active state.Terminated h = refl

pub begun_preparing : (s : State) → is_preparing s ≡ true → is_not_begun s ≡ false
begun_preparing state.NotBegun h = cc
begun_preparing state.Active h = refl
begun_preparing state.Preparing h = refl
begun_preparing state.Committed h = refl
begun_preparing (state.Aborted cause) h = refl
begun_preparing state.Terminated h = refl

module _ (w : World) (t : ℕ) (before : List Effect) (e : Effect) (after : List Effect) (a : Allowed w t (before ++ e ∷ after)) where
  cur : World
  cur = apply_all t w before

  walking : Walking w t a.purpose a.bucket a.test (before ++ e ∷ after)
  walking = is-walking w t a.purpose a.bucket a.test (before ++ e ∷ after) a.walk

  same : (apply_all t w before).txns ≡ w.txns
  same = (apply_all-times t w before).txns

  pub turn-sound : Sound (apply_all t w before)
  turn-sound = part-sound w t a.purpose a.bucket a.test before (e ∷ after) a.walk

  -- a version that was seen is still held after the first effects
  still-held : (v : ℕ) → is_held (version_in w.versions v).ender ≡ true → is_held (version_in (apply_all t w before).versions v).ender ≡ true
  still-held v h =
      let m = (moved w t a.purpose a.bucket a.test before (walking-first w t a.purpose a.bucket a.test before (e ∷ after) walking) v).ender in
      ⊎_elim (λ k. ap is_held k ∙ h) (λ k. ⊎_elim (λ c. ap is_held c ∙ held-cleared w.txns (version_in w.versions v).ender h) (λ p. ap is_held p.0) k) m

may-turn : (w : World) (t : ℕ) (before : List Effect) (e : Effect) (after : List Effect) → Allowed w t (before ++ e ∷ after) → May (apply_all t w before) t e
may-turn w t before (LockBucket b) after a =
    let k = (walking w t before (LockBucket b) after a).warrant (LockBucket b) (In-right (LockBucket b) before (LockBucket b ∷ after) (inl refl)) in
    let there = a.walk.there in let buckets = (apply_all-times t w before).buckets in omega (arith, k, there, buckets)
may-turn w t before (DependOn u) after a =
    let k = (walking w t before (DependOn u) after a).warrant (DependOn u) (In-right (DependOn u) before (DependOn u ∷ after) (inl refl)) in
    ap (λ ts. is_not_begun (txn_in ts u).state) (same w t before (DependOn u) after a) ∙ begun_preparing (txn_in w.txns u).state k
may-turn w t before (MakeWait u) after a =
    let k = (walking w t before (MakeWait u) after a).warrant (MakeWait u) (In-right (MakeWait u) before (MakeWait u ∷ after) (inl refl)) in
    ap (λ ts. is_not_begun (txn_in ts u).state) (same w t before (MakeWait u) after a) ∙ begun_active (txn_in w.txns u).state k.0
may-turn w t before (ReadLock v) after a =
    let k = (walking w t before (ReadLock v) after a).warrant (ReadLock v) (In-right (ReadLock v) before (ReadLock v ∷ after) (inl refl)) in
    record {
      made = let l = below a.test 0 v w.versions k.1 in let n = length-walked t w before in omega (arith, l, n);
      held = still-held w t before (ReadLock v) after a v (sound-seen w a.walk.sound t v k.2);
      allowed = read-turn w t a.purpose a.bucket a.test before after v a.walk;
    }
may-turn w t before (WriteLock v) after a =
    let y = walking w t before (WriteLock v) after a in
    let k = y.warrant (WriteLock v) (In-right (WriteLock v) before (WriteLock v ∷ after) (inl refl)) in
    record {
      made = let l = below a.test 0 v w.versions k.2 in let n = length-walked t w before in omega (arith, l, n);
      walker = ap (λ ts. is_aborted (txn_in ts t).state) (same w t before (WriteLock v) after a) ∙ ap is_aborted y.state;
      allowed = write-turn w t a.purpose a.bucket a.test before after v a.walk;
    }

-- the first i effects of a walk are done
pub record Done (m : Engine) (t made : ℕ) (effects : List Effect) (i : ℕ) (cur : Engine) : Type 0 where
  pub shows : (w : World) → StandsFor m w → Shows cur (apply_all t w (take i effects))
  pub room : HasRoom cur t made (drop i effects)
  pub kept : KeepsAdding m cur t

split : (es : List Effect) (i : ℕ) (e : Effect) → i < length es → e ≡ get_or es i e → es ≡ take i es ++ e ∷ drop (i + 1) es
split es i e l at = sym (take-append-drop i es) ∙ ap (λ xs. take i es ++ xs) (drop_more es i e l ∙ ap (λ x. x ∷ drop (i + 1) es) (sym at))

can-turn : (m cur : Engine) (t made i : ℕ) (e : Effect) (es : List Effect) (w : World) → i < length es → e ≡ get_or es i e → length m.store.versions < 2 ^ 58 → StandsFor m w →
    Allowed w t es → Done m t made es i cur → CanApply cur t e (apply_all t w (take i es))
can-turn m cur t made i e es w l at small s a d =
    let before : List Effect = take i es in
    let b : Allowed w t (take i es ++ e ∷ drop (i + 1) es) = subst (Allowed w t) (split es i e l at) a in
    let shows = d.shows w s in
    let long = length-walked t w (take i es) in
    let same = (apply_all-times t w (take i es)).txns in
    let y = walking w t (take i es) e (drop (i + 1) es) b in
    record {
      shows = shows;
      sound = turn-sound w t (take i es) e (drop (i + 1) es) b;
      walker = begun-known cur.txns (apply_all t w (take i es)) t shows.txns (ap (λ ts. is_not_begun (txn_in ts t).state) same ∙ ap is_not_begun y.state);
      few = let c = s.shows.store.count in let n = s.named in let k = ap length same in omega (arith, c, n, k, long, small);
      named = let n = s.named in let k = ap length same in omega (arith, n, k);
      may = may-turn w t (take i es) e (drop (i + 1) es) b;
    }

pub able_turn : (m cur : Engine) (t made i : ℕ) (e : Effect) (es : List Effect) → StandsForSome m → i < length es → e ≡ get_or es i e → length m.store.versions < 2 ^ 58 →
    ((w : World) → StandsFor m w → Allowed w t es) → Done m t made es i cur → IsAble cur t e
able_turn m cur t made i e es o l at small a d = record {
  world = apply_all t o.world (take i es);
  can = can-turn m cur t made i e es o.world l at small o.stands (a o.world o.stands) d;
}

-- ---- room for the turn

first-left : (es : List Effect) (i : ℕ) (e : Effect) → i < length es → e ≡ get_or es i e → drop i es ≡ e ∷ drop (i + 1) es
first-left es i e l at = drop_more es i e l ∙ ap (λ x. x ∷ drop (i + 1) es) (sym at)

pub record RoomNow (m : Engine) (t : ℕ) (e : Effect) : Type 0 where
  pub ready : IsEffectReady m t e
  pub reads : reads_in (e ∷ []) ≤ (read_set_of m.txns t).room
  pub writes : writes_in (e ∷ []) ≤ (write_set_of m.txns t).room
  pub waits : wait_effects (e ∷ []) ≤ (waiting_list_of m.txns t).room
  pub buckets : buckets_in (e ∷ []) ≤ (bucket_set_of m.txns t).room

left-room : (cur new : Engine) (t made : ℕ) (e : Effect) (es : List Effect) → KeepsRoom cur new t e → HasRoom cur t made (e ∷ es) → HasRoom new t made es
left-room cur new t made e es k r =
    let a = reads-first e es in let b = writes-first e es in let c = waits-first e es in let d = buckets-first e es in
    let x = r.reads in let y = r.writes in let z = r.waits in let u = r.buckets in
    let p = k.reads in let q = k.writes in let s = k.waits in let v = k.buckets in
    record {
      reads = omega (arith, a, x, p);
      writes = omega (arith, b, y, q);
      waits = omega (arith, c, z, s);
      buckets = omega (arith, d, u, v);
      others = λ n i. k.others n (r.others n (inr i));
    }

-- ---- the turn done

pub kept-more : (a b c : Engine) (t : ℕ) → KeepsAdding a b t → KeepsAdding b c t → KeepsAdding a c t
kept-more a b c t p q = record {
  versions = let k = p.versions in let l = q.versions in omega (arith, k, l);
  joins = λ h ne r. q.joins h ne (p.joins h ne r);
  holders = λ n h k. ⊎_elim (λ y. p.holders n h y) (λ y. inr y) (q.holders n h k);
}

apply-more : (t : ℕ) (w : World) (xs : List Effect) (e : Effect) → apply_all t w (xs ++ e ∷ []) ≡ apply t (apply_all t w xs) e
apply-more t w [] e = refl
apply-more t w (x ∷ xs) e = apply-more t (apply t w x) xs e

pub done_more : (m cur new : Engine) (t made i : ℕ) (e : Effect) (es : List Effect) → i < length es → e ≡ get_or es i e → length m.store.versions < 2 ^ 58 →
    ((w : World) → StandsFor m w → Allowed w t es) → Done m t made es i cur → Applies cur new t e → KeepsRoom cur new t e → Done m t made es (i + 1) new
done_more m cur new t made i e es l at small a d does keeps = record {
  shows = λ w s. subst (Shows new) (sym (ap (apply_all t w) (take_more es i e l ∙ ap (λ x. take i es ++ x ∷ []) (sym at)) ∙ apply-more t w (take i es) e))
      (does (apply_all t w (take i es)) (can-turn m cur t made i e es w l at small s (a w s) d));
  room = left-room cur new t made e (drop (i + 1) es) keeps (subst (HasRoom cur t made) (first-left es i e l at) d.room);
  kept = kept-more m cur new t d.kept keeps.adding;
}
