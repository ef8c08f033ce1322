-- The world after the effects of a walk, done one after another.
use Rattle.std.proofs.Common.{◌≡◌, ℕ, zero, suc, true, false, List, [], ◌∷◌, Some, None, refl, ◌∙◌, ap, sym, inl, inr, ⊎_elim, subst}
use Rattle.std.proofs.lemmas.Bool.{cases_Bool, cond-true, cond-false, cond_both, false≢true, or_cases, or_left, or_right, and_parts, eqb-true, eq-eqb}
use Rattle.std.specs.Prelude.{not, ◌==◌, ◌⊎◌, is_some, slice_get, slice_set, unwrap_or}
use Rattle.hek_rules.specs.declared.event.State.TheVariants.{Active}
use Rattle.hek_rules.specs.Listing.{has, leave, is_pair}
use Rattle.hek_rules.specs.World.{World, Txn, Version, Ender, EndedAt, Held, txn_in, version_in, is_held_by, is_made_by, no_version, is_aborted}
use Rattle.hek_rules.specs.Locks.{cleared, reads_freely, set_ender, with_ender}
use Rattle.hek_rules.specs.declared.event.Effect.{Effect}
use Rattle.hek_rules.specs.declared.event.Effect.TheVariants.{LockBucket, DependOn, MakeWait, ReadLock, WriteLock}
use Rattle.hek_rules.specs.Walk.{apply, apply_all}
use Rattle.hek_laws.specs.Lists.{In}
use Rattle.hek_laws.proofs.Table.SetTxns.{slice_get-set_same}
use Rattle.hek_laws.proofs.Sound.WaitCounts.{version_in-set}
use Rattle.hek_laws.proofs.Walks.Judged.{has-join, has-join_kept}
use Rattle.hek_laws.proofs.Futures.Quiet.{has-leave}

-- the pair of t with another version stays after one leaves
has-leave_other : (ps : List (ℕ × ℕ)) (t a v : ℕ) → (v == a) ≡ false → has ps t v ≡ true → has (leave ps t a) t v ≡ true
has-leave_other [] t a v n h = h
has-leave_other (p ∷ ps) t a v n h =
    ⊎_elim
    (λ out.
    ⊎_elim
    (λ here.
    let one : p.1 ≡ v = eqb-true _ _ (and_parts (p.0 == t) (p.1 == v) here).1 in
    absurd (false≢true (sym n ∙ ap (λ m. m == a) (sym one) ∙ (and_parts (p.0 == t) (p.1 == a) out).1)))
    (λ later. subst (λ qs. has qs t v ≡ true) (sym (cond-false _ (p ∷ leave ps t a) (leave ps t a) (ap not out))) (has-leave_other ps t a v n later))
    (or_cases _ _ h))
    (λ kept. subst (λ qs. has qs t v ≡ true) (sym (cond-true _ (p ∷ leave ps t a) (leave ps t a) (ap not kept)))
    (⊎_elim (λ here. or_left _ _ here) (λ later. or_right (is_pair t v p) _ (has-leave_other ps t a v n later)) (or_cases _ _ h)))
    (cases_Bool (is_pair t a p))

cleared-twice : (ts : List Txn) (e : Ender) → cleared ts (cleared ts e) ≡ cleared ts e
cleared-twice ts (EndedAt time) = refl
cleared-twice ts (Held None b) = refl
cleared-twice ts (Held (Some u) b) =
    let both = cond-true (is_aborted (txn_in ts u).state) (Held None false) (Held (Some u) b) in
    ⊎_elim (λ y. ap (cleared ts) (both y) ∙ sym (both y)) (λ n. ap (cleared ts) (cond-false (is_aborted (txn_in ts u).state) (Held None false) (Held (Some u) b) n)) (cases_Bool (is_aborted (txn_in ts u).state))

pub there-set : (vs : List Version) (i j : ℕ) (x : Version) → is_some (slice_get vs j) ≡ true → is_some (slice_get (slice_set vs i x) j) ≡ true
there-set [] i j x h = cc
there-set (y ∷ ys) zero zero x h = refl
there-set (y ∷ ys) zero (suc j) x h = h
there-set (y ∷ ys) (suc i) zero x h = refl
there-set (y ∷ ys) (suc i) (suc j) x h = there-set ys i j x h

pub version_in-set_same : (vs : List Version) (i : ℕ) (x : Version) → is_some (slice_get vs i) ≡ true → version_in (slice_set vs i x) i ≡ x
version_in-set_same vs i x h = ap (λ o. unwrap_or o no_version) (slice_get-set_same vs i x h)

-- what may have changed of a version while t walks
pub record Moved (w : World) (t : ℕ) (W : ℕ → Type 0) (cur : World) (v : ℕ) : Type 0 where
  pub there : is_some (slice_get w.versions v) ≡ true → is_some (slice_get cur.versions v) ≡ true
  pub key : (version_in cur.versions v).key ≡ (version_in w.versions v).key
  pub value : (version_in cur.versions v).value ≡ (version_in w.versions v).value
  pub creator : (version_in cur.versions v).creator ≡ (version_in w.versions v).creator
  pub ender : ((version_in cur.versions v).ender ≡ (version_in w.versions v).ender)
      ⊎ (((version_in cur.versions v).ender ≡ cleared w.txns (version_in w.versions v).ender)
      ⊎ (((version_in cur.versions v).ender ≡ Held (Some t) false) × W v))

pub record Good (w : World) (t : ℕ) (W : ℕ → Type 0) (cur : World) : Type 0 where
  pub txns : cur.txns ≡ w.txns
  pub moved : (v : ℕ) → Moved w t W cur v

-- an effect is no write lock, or one that may be taken
abbrev pub CanDo : (ℕ → Type 0) → Effect → Type 0
CanDo W (LockBucket b) = Unit {0}
CanDo W (DependOn u) = Unit {0}
CanDo W (MakeWait u) = Unit {0}
CanDo W (ReadLock v) = Unit {0}
CanDo W (WriteLock v) = W v

pub record CanAll (W : ℕ → Type 0) (es : List Effect) : Type 0 where
  pub each : (e : Effect) → In e es → CanDo W e

pub good-start : (w : World) (t : ℕ) (W : ℕ → Type 0) → Good w t W w
good-start w t W = record { txns = refl; moved = λ v. record { there = λ h. h; key = refl; value = refl; creator = refl; ender = inl refl } }

module _ (w : World) (t : ℕ) (W : ℕ → Type 0) (active : (txn_in w.txns t).state ≡ Active) where
  mine-cleared : (e : Ender) → is_held_by t e ≡ true → is_held_by t (cleared w.txns e) ≡ true
  mine-cleared (EndedAt time) h = h
  mine-cleared (Held None b) h = h
  mine-cleared (Held (Some u) b) h =
      let live : is_aborted (txn_in w.txns u).state ≡ false = ap (λ n. is_aborted (txn_in w.txns n).state) (eqb-true _ _ h) ∙ ap is_aborted active in
      ap (is_held_by t) (cond-false (is_aborted (txn_in w.txns u).state) (Held None false) (Held (Some u) b) live) ∙ h

  set-moved : (cur : World) (v : ℕ) (f : Ender) → Good w t W cur → Moved w t W (record cur { versions = set_ender cur.versions v f }) v → (j : ℕ) → Moved w t W (record cur { versions = set_ender cur.versions v f }) j
  set-moved cur v f g m j =
      ⊎_elim (λ p. subst (Moved w t W (record cur { versions = set_ender cur.versions v f })) (sym p.0) m)
      (λ e. let o = g.moved j in record {
        there = λ h. there-set cur.versions v j _ (o.there h);
        key = ap (λ (x : Version). x.key) e ∙ o.key;
        value = ap (λ (x : Version). x.value) e ∙ o.value;
        creator = ap (λ (x : Version). x.creator) e ∙ o.creator;
        ender = ⊎_elim (λ a. inl (ap (λ (x : Version). x.ender) e ∙ a)) (λ b. inr (⊎_elim (λ a. inl (ap (λ (x : Version). x.ender) e ∙ a)) (λ c. inr (ap (λ (x : Version). x.ender) e ∙ c.0, c.1)) b)) o.ender;
      }) (version_in-set cur.versions v j (with_ender (version_in cur.versions v) f))

  -- the version v after its ender is set
  at-set : (cur : World) (v : ℕ) (f : Ender) → Good w t W cur → ((f ≡ cleared w.txns (version_in w.versions v).ender) ⊎ ((f ≡ Held (Some t) false) × W v)) → Moved w t W (record cur { versions = set_ender cur.versions v f }) v
  at-set cur v f g c =
      let o = g.moved v in
      ⊎_elim (λ p. record {
        there = λ h. there-set cur.versions v v _ (o.there h);
        key = ap (λ (x : Version). x.key) p.1 ∙ o.key;
        value = ap (λ (x : Version). x.value) p.1 ∙ o.value;
        creator = ap (λ (x : Version). x.creator) p.1 ∙ o.creator;
        ender = inr (⊎_elim (λ a. inl (ap (λ (x : Version). x.ender) p.1 ∙ a)) (λ b. inr (ap (λ (x : Version). x.ender) p.1 ∙ b.0, b.1)) c);
      })
      (λ e. record {
        there = λ h. there-set cur.versions v v _ (o.there h);
        key = ap (λ (x : Version). x.key) e ∙ o.key;
        value = ap (λ (x : Version). x.value) e ∙ o.value;
        creator = ap (λ (x : Version). x.creator) e ∙ o.creator;
        ender = ⊎_elim (λ a. inl (ap (λ (x : Version). x.ender) e ∙ a)) (λ b. inr (⊎_elim (λ a. inl (ap (λ (x : Version). x.ender) e ∙ a)) (λ c. inr (ap (λ (x : Version). x.ender) e ∙ c.0, c.1)) b)) o.ender;
      }) (version_in-set cur.versions v v (with_ender (version_in cur.versions v) f))

  pub clears : (cur : World) (v : ℕ) → Good w t W cur → (cleared cur.txns (version_in cur.versions v).ender ≡ cleared w.txns (version_in w.versions v).ender) ⊎ ((cleared cur.txns (version_in cur.versions v).ender ≡ Held (Some t) false) × W v)
  clears cur v g =
      let now = ap (λ ts. cleared ts (version_in cur.versions v).ender) g.txns in
      ⊎_elim (λ a. inl (now ∙ ap (cleared w.txns) a))
      (λ b. ⊎_elim (λ a. inl (now ∙ ap (cleared w.txns) a ∙ cleared-twice w.txns (version_in w.versions v).ender))
      (λ c. inr (now ∙ ap (cleared w.txns) c.0 ∙ cond-false (is_aborted (txn_in w.txns t).state) (Held None false) (Held (Some t) false) (ap is_aborted active), c.1)) b) (g.moved v).ender

  good-from : (old new : World) → new.txns ≡ old.txns → new.versions ≡ old.versions → Good w t W old → Good w t W new
  good-from old new a b g = record {
    txns = a ∙ g.txns;
    moved = λ v. let o = g.moved v in record {
      there = λ h. ap (λ vs. is_some (slice_get vs v)) b ∙ o.there h;
      key = ap (λ vs. (version_in vs v).key) b ∙ o.key;
      value = ap (λ vs. (version_in vs v).value) b ∙ o.value;
      creator = ap (λ vs. (version_in vs v).creator) b ∙ o.creator;
      ender = subst (λ vs. ((version_in vs v).ender ≡ (version_in w.versions v).ender) ⊎ (((version_in vs v).ender ≡ cleared w.txns (version_in w.versions v).ender) ⊎ (((version_in vs v).ender ≡ Held (Some t) false) × W v))) (sym b) o.ender;
    };
  }

  pub good-apply : (cur : World) (e : Effect) → CanDo W e → Good w t W cur → Good w t W (apply t cur e)
  good-apply cur (LockBucket b) c g = good-from cur (apply t cur (LockBucket b)) refl refl g
  good-apply cur (DependOn u) c g = good-from cur (apply t cur (DependOn u)) refl refl g
  good-apply cur (MakeWait u) c g = good-from cur (apply t cur (MakeWait u)) refl refl g
  good-apply cur (ReadLock v) c g =
      let f = cleared cur.txns (version_in cur.versions v).ender in
      cond_both (reads_freely cur t v) cur _ (Good w t W) (λ _. g)
      (λ _. good-from (record cur { versions = set_ender cur.versions v f }) _ refl refl (record { txns = g.txns; moved = set-moved cur v f g (at-set cur v f g (clears cur v g)) }))
  good-apply cur (WriteLock v) c g =
      good-from (record cur { versions = set_ender cur.versions v (Held (Some t) false) }) (apply t cur (WriteLock v)) refl refl
      (record { txns = g.txns; moved = set-moved cur v (Held (Some t) false) g (at-set cur v (Held (Some t) false) g (inr (refl, c))) })

  pub good-all : (cur : World) (es : List Effect) → CanAll W es → Good w t W cur → Good w t W (apply_all t cur es)
  good-all cur [] c g = g
  good-all cur (e ∷ es) c g = good-all (apply t cur e) es (record { each = λ f i. c.each f (inr i) }) (good-apply cur e (c.each e (inl refl)) g)

  -- a property that each effect keeps
  pub record Stays (D : World → Type 0) : Type 0 where
    pub stays : (cur : World) (e : Effect) → Good w t W cur → CanDo W e → D cur → D (apply t cur e)

  pub stays-all : (D : World → Type 0) → Stays D → (cur : World) (es : List Effect) → CanAll W es → Good w t W cur → D cur → D (apply_all t cur es)
  stays-all D s cur [] c g d = d
  stays-all D s cur (e ∷ es) c g d =
      stays-all D s (apply t cur e) es (record { each = λ f i. c.each f (inr i) }) (good-apply cur e (c.each e (inl refl)) g) (s.stays cur e g (c.each e (inl refl)) d)

  pub done-all : (D : World → Type 0) → Stays D → (e : Effect) → ((cur : World) → Good w t W cur → D (apply t cur e)) → (cur : World) (es : List Effect) → In e es → CanAll W es → Good w t W cur → D (apply_all t cur es)
  done-all D s e now cur [] i c g = absurd i
  done-all D s e now cur (f ∷ fs) i c g =
      let rest : CanAll W fs = record { each = λ x j. c.each x (inr j) } in
      let g2 = good-apply cur f (c.each f (inl refl)) g in
      ⊎_elim (λ here. stays-all D s (apply t cur f) fs rest g2 (subst (λ x. D (apply t cur x)) here (now cur g)))
      (λ later. done-all D s e now (apply t cur f) fs later rest g2) i

  -- the pairs of another transaction, and its waits, stay
  pub reads-stay : (x v : ℕ) → (x == t) ≡ false → Stays (λ cur. has cur.read_locks x v ≡ true)
  reads-stay x v n = record { stays = stay }
    where
      stay : (cur : World) (e : Effect) → Good w t W cur → CanDo W e → has cur.read_locks x v ≡ true → has (apply t cur e).read_locks x v ≡ true
      stay cur (LockBucket b) g c h = h
      stay cur (DependOn u) g c h = h
      stay cur (MakeWait u) g c h = h
      stay cur (ReadLock u) g c h = cond_both (reads_freely cur t u) cur _ (λ (z : World). has z.read_locks x v ≡ true) (λ _. h) (λ _. has-join_kept cur.read_locks t u x v h)
      stay cur (WriteLock u) g c h = has-leave cur.read_locks t u x v n h

  pub reads-stay_own : (v : ℕ) → ((u : ℕ) → W u → ⊥) → Stays (λ cur. has cur.read_locks t v ≡ true)
  reads-stay_own v never = record { stays = stay }
    where
      stay : (cur : World) (e : Effect) → Good w t W cur → CanDo W e → has cur.read_locks t v ≡ true → has (apply t cur e).read_locks t v ≡ true
      stay cur (LockBucket b) g c h = h
      stay cur (DependOn u) g c h = h
      stay cur (MakeWait u) g c h = h
      stay cur (ReadLock u) g c h = cond_both (reads_freely cur t u) cur _ (λ (z : World). has z.read_locks t v ≡ true) (λ _. h) (λ _. has-join_kept cur.read_locks t u t v h)
      stay cur (WriteLock u) g c h = absurd (never u c)

  pub locks-stay : (x b : ℕ) → Stays (λ cur. has cur.bucket_locks x b ≡ true)
  locks-stay x b = record { stays = stay }
    where
      stay : (cur : World) (e : Effect) → Good w t W cur → CanDo W e → has cur.bucket_locks x b ≡ true → has (apply t cur e).bucket_locks x b ≡ true
      stay cur (LockBucket u) g c h = has-join_kept cur.bucket_locks t u x b h
      stay cur (DependOn u) g c h = h
      stay cur (MakeWait u) g c h = h
      stay cur (ReadLock u) g c h = cond_both (reads_freely cur t u) cur _ (λ (z : World). has z.bucket_locks x b ≡ true) (λ _. h) (λ _. h)
      stay cur (WriteLock u) g c h = h

  pub waits-stay : (x b : ℕ) → Stays (λ cur. has cur.waiters x b ≡ true)
  waits-stay x b = record { stays = stay }
    where
      stay : (cur : World) (e : Effect) → Good w t W cur → CanDo W e → has cur.waiters x b ≡ true → has (apply t cur e).waiters x b ≡ true
      stay cur (LockBucket u) g c h = h
      stay cur (DependOn u) g c h = h
      stay cur (MakeWait u) g c h = has-join_kept cur.waiters t u x b h
      stay cur (ReadLock u) g c h = cond_both (reads_freely cur t u) cur _ (λ (z : World). has z.waiters x b ≡ true) (λ _. h) (λ _. h)
      stay cur (WriteLock u) g c h = h

  -- t read-locks the version, or ended it
  abbrev pub Guards : ℕ → World → Type 0
  Guards v cur = (has cur.read_locks t v ≡ true) ⊎ (is_held_by t (version_in cur.versions v).ender ≡ true)

  held-now : (cur : World) (u : ℕ) → Good w t W cur → is_some (slice_get w.versions u) ≡ true → is_held_by t (version_in (apply t cur (WriteLock u)).versions u).ender ≡ true
  held-now cur u g r = ap (λ (x : Version). is_held_by t x.ender) (version_in-set_same cur.versions u (with_ender (version_in cur.versions u) (Held (Some t) false)) ((g.moved u).there r)) ∙ eq-eqb t t refl

  pub held-stays : (v : ℕ) → Stays (λ cur. is_held_by t (version_in cur.versions v).ender ≡ true)
  held-stays v = record { stays = stay }
    where
      stay : (cur : World) (e : Effect) → Good w t W cur → CanDo W e → is_held_by t (version_in cur.versions v).ender ≡ true → is_held_by t (version_in (apply t cur e).versions v).ender ≡ true
      stay cur (LockBucket b) g c h = h
      stay cur (DependOn u) g c h = h
      stay cur (MakeWait u) g c h = h
      stay cur (ReadLock u) g c h = cond_both (reads_freely cur t u) cur _ (λ (z : World). is_held_by t (version_in z.versions v).ender ≡ true) (λ _. h)
          (λ _. ⊎_elim (λ p. ap (λ (x : Version). is_held_by t x.ender) p.1 ∙ ap (λ ts. is_held_by t (cleared ts (version_in cur.versions u).ender)) g.txns ∙ mine-cleared (version_in cur.versions u).ender (ap (λ n. is_held_by t (version_in cur.versions n).ender) (sym p.0) ∙ h))
          (λ e. ap (λ (x : Version). is_held_by t x.ender) e ∙ h) (version_in-set cur.versions u v _))
      stay cur (WriteLock u) g c h =
          ⊎_elim (λ p. ap (λ (x : Version). is_held_by t x.ender) p.1 ∙ eq-eqb t t refl) (λ e. ap (λ (x : Version). is_held_by t x.ender) e ∙ h) (version_in-set cur.versions u v (with_ender (version_in cur.versions u) (Held (Some t) false)))

  pub guards-stay : (v : ℕ) → is_some (slice_get w.versions v) ≡ true → Stays (Guards v)
  guards-stay v r = record { stays = λ cur e g c d. ⊎_elim (stay cur e g c) (λ h. inr ((held-stays v).stays cur e g c h)) d }
    where
      stay : (cur : World) (e : Effect) → Good w t W cur → CanDo W e → has cur.read_locks t v ≡ true → Guards v (apply t cur e)
      stay cur (LockBucket b) g c h = inl h
      stay cur (DependOn u) g c h = inl h
      stay cur (MakeWait u) g c h = inl h
      stay cur (ReadLock u) g c h = inl (cond_both (reads_freely cur t u) cur _ (λ (z : World). has z.read_locks t v ≡ true) (λ _. h) (λ _. has-join_kept cur.read_locks t u t v h))
      stay cur (WriteLock u) g c h =
          ⊎_elim (λ same. inr (subst (λ n. is_held_by t (version_in (apply t cur (WriteLock u)).versions n).ender ≡ true) (sym (eqb-true v u same)) (held-now cur u g (subst (λ n. is_some (slice_get w.versions n) ≡ true) (eqb-true v u same) r))))
          (λ other. inl (has-leave_other cur.read_locks t u v other h)) (cases_Bool (v == u))

  -- a version that the walk read-locked is guarded after the walk
  pub read-done : (v : ℕ) (es : List Effect) → is_some (slice_get w.versions v) ≡ true → is_made_by t (version_in w.versions v).creator ≡ false → In (ReadLock v) es → CanAll W es → Guards v (apply_all t w es)
  read-done v es r n i c = done-all (Guards v) (guards-stay v r) (ReadLock v) now w es i c (good-start w t W)
    where
      now : (cur : World) → Good w t W cur → Guards v (apply t cur (ReadLock v))
      now cur g = inl (cond_both (reads_freely cur t v) cur _ (λ (z : World). has z.read_locks t v ≡ true)
          (λ free. ⊎_elim (λ made. absurd (false≢true (sym n ∙ ap (is_made_by t) (sym (g.moved v).creator) ∙ made))) (λ h. h) (or_cases _ _ free))
          (λ _. has-join cur.read_locks t v))

  pub write-done : (v : ℕ) (es : List Effect) → is_some (slice_get w.versions v) ≡ true → In (WriteLock v) es → CanAll W es → is_held_by t (version_in (apply_all t w es).versions v).ender ≡ true
  write-done v es r i c = done-all (λ cur. is_held_by t (version_in cur.versions v).ender ≡ true) (held-stays v) (WriteLock v) (λ cur g. held-now cur v g r) w es i c (good-start w t W)

  pub lock-done : (b : ℕ) (es : List Effect) → In (LockBucket b) es → CanAll W es → has (apply_all t w es).bucket_locks t b ≡ true
  lock-done b es i c = done-all (λ cur. has cur.bucket_locks t b ≡ true) (locks-stay t b) (LockBucket b) (λ cur g. has-join cur.bucket_locks t b) w es i c (good-start w t W)

  pub wait-done : (u : ℕ) (es : List Effect) → In (MakeWait u) es → CanAll W es → has (apply_all t w es).waiters t u ≡ true
  wait-done u es i c = done-all (λ cur. has cur.waiters t u ≡ true) (waits-stay t u) (MakeWait u) (λ cur g. has-join cur.waiters t u) w es i c (good-start w t W)
