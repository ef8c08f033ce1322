-- Members of the lists of a world: transactions that have begun or are present, existing versions and buckets, and read
-- locks of held versions alone.
use Rattle.std.proofs.Common.{◌≡◌, ℕ, ◌+◌, ◌<◌, Bool, true, false, List, ◌∷◌, Some, None, refl, ◌∙◌, ap, sym, arith, ⊎_elim, subst, length}
use Rattle.std.proofs.lemmas.Bool.{cond_both, false≢true, eqb-true, eq-eqb}
use Rattle.std.specs.Prelude.{not, ◌==◌, is_some, slice_get, slice_set}
use Rattle.hek_rules.specs.declared.event.State.{State}
use Rattle.hek_rules.specs.declared.event.State.TheVariants as state
use Rattle.hek_rules.specs.declared.event.Effect.{Effect}
use Rattle.hek_rules.specs.declared.event.Effect.TheVariants.{LockBucket, DependOn, MakeWait, ReadLock}
use Rattle.hek_rules.specs.declared.event.WriteEntry.{WriteEntry}
use Rattle.hek_rules.specs.declared.event.WriteEntry.TheVariants.{EndOf}
use Rattle.hek_rules.specs.declared.word.BeginRecord.TheVariants.{At, By}
use Rattle.hek_rules.specs.Listing.{has, leave, is_pair, firsts_of, seconds_of}
use Rattle.hek_rules.specs.World.{World, Txn, Version, Ender, EndedAt, Held, txn_in, set_txn, version_in, places, bucket_of, is_active, is_preparing, is_not_begun, is_present}
use Rattle.hek_rules.specs.Waits.{readers}
use Rattle.hek_rules.specs.Locks.{with_ender, add_version}
use Rattle.hek_rules.specs.Walk.{Purpose, apply_all}
use Rattle.hek_rules.specs.Table.{abort, begin, finish, prepare, commit, end, drop_read, sealed, given_back, holds_nothing, entries_of}
use Rattle.hek_laws.specs.Sound.{is_held, IsSoundEnder}
use Rattle.hek_laws.proofs.Table.SetTxns.{each_txn-set, each_txn-doom, txn_in-set_other}
use Rattle.hek_laws.proofs.Table.Unchanged.{apply_all-times}
use Rattle.hek_laws.proofs.Sound.WaitCounts.{version_in-set}
use Rattle.hek_laws.proofs.Walks.Walked.{there-set}
use Rattle.hek_laws.proofs.Futures.PullBack.{In-seconds}
use Rattle.hek_laws.proofs.Futures.Invariant.{length-In}
use Rattle.hek_laws.proofs.Lists.Pairs.{has-filter, wait-from, firsts-In}
use Rattle.hek_laws.proofs.Sound.Flags.{held-cleared}
use Rattle.hek_laws.proofs.Table.Cases.{IsIn}
use Rattle.hek_laws.proofs.Walks.Sights.{seen-held}
use Rattle.hek_laws.proofs.Walks.ReadLocks.{reads-from, locks-from, waiters-from, tested-there}
use Rattle.hek_laws.proofs.Words.Versions.{range-append}
use Rattle.hek_laws.proofs.Futures.Written.{append-cases}
use Rattle.hek_laws.proofs.Worlds.Dependences.{depends-from}
use Rattle.hek_laws.proofs.Table.WorldSteps.{EachStep}
use Rattle.hek_laws.proofs.Walks.Walking.{Walking, moved}

pub record Listed (w : World) : Type 0 where
  pub reader : (t v : ℕ) → has w.read_locks t v ≡ true → is_present (txn_in w.txns t).state ≡ true
  pub read_there : (t v : ℕ) → has w.read_locks t v ≡ true → is_some (slice_get w.versions v) ≡ true
  pub read_held : (t v : ℕ) → has w.read_locks t v ≡ true → is_held (version_in w.versions v).ender ≡ true
  pub locker : (t b : ℕ) → has w.bucket_locks t b ≡ true → is_present (txn_in w.txns t).state ≡ true
  pub bucket_there : (t b : ℕ) → has w.bucket_locks t b ≡ true → b < w.buckets
  pub holder : (t u : ℕ) → has w.waiters t u ≡ true → is_present (txn_in w.txns t).state ≡ true
  pub waiter : (t u : ℕ) → has w.waiters t u ≡ true → is_not_begun (txn_in w.txns u).state ≡ false
  pub waits_for_other : (t u : ℕ) → has w.waiters t u ≡ true → t ≡ u → ⊥
  pub dependent : (u t : ℕ) → has w.dependents u t ≡ true → is_not_begun (txn_in w.txns t).state ≡ false
  pub depends_on_other : (u t : ℕ) → has w.dependents u t ≡ true → u ≡ t → ⊥

-- ---- an event that adds no pairs
record Fewer (w new : World) : Type 0 where
  reads : (t v : ℕ) → has new.read_locks t v ≡ true → has w.read_locks t v ≡ true
  buckets : (t b : ℕ) → has new.bucket_locks t b ≡ true → has w.bucket_locks t b ≡ true
  waiters : (t u : ℕ) → has new.waiters t u ≡ true → has w.waiters t u ≡ true
  dependents : (u t : ℕ) → has new.dependents u t ≡ true → has w.dependents u t ≡ true

record Lasting (w new : World) : Type 0 where
  count : new.buckets ≡ w.buckets
  there : (v : ℕ) → is_some (slice_get w.versions v) ≡ true → is_some (slice_get new.versions v) ≡ true
  held : (t v : ℕ) → has new.read_locks t v ≡ true → is_held (version_in w.versions v).ender ≡ true → is_held (version_in new.versions v).ender ≡ true

-- a transaction that has begun stays so, and a present one that holds something stays present
record Going (w new : World) : Type 0 where
  begun : (u : ℕ) → is_not_begun (txn_in w.txns u).state ≡ false → is_not_begun (txn_in new.txns u).state ≡ false
  reader : (u v : ℕ) → has w.read_locks u v ≡ true → is_present (txn_in w.txns u).state ≡ true → is_present (txn_in new.txns u).state ≡ true
  locker : (u b : ℕ) → has w.bucket_locks u b ≡ true → is_present (txn_in w.txns u).state ≡ true → is_present (txn_in new.txns u).state ≡ true
  holder : (u x : ℕ) → has w.waiters u x ≡ true → is_present (txn_in w.txns u).state ≡ true → is_present (txn_in new.txns u).state ≡ true

listed-from : (w new : World) → Fewer w new → Lasting w new → Going w new → Listed w → Listed new
listed-from w new f l g k = record {
  reader = λ t v h. let o = f.reads t v h in g.reader t v o (k.reader t v o);
  read_there = λ t v h. l.there v (k.read_there t v (f.reads t v h));
  read_held = λ t v h. l.held t v h (k.read_held t v (f.reads t v h));
  locker = λ t b h. let o = f.buckets t b h in g.locker t b o (k.locker t b o);
  bucket_there = λ t b h. subst (λ n. b < n) (sym l.count) (k.bucket_there t b (f.buckets t b h));
  holder = λ t u h. let o = f.waiters t u h in g.holder t u o (k.holder t u o);
  waiter = λ t u h. g.begun u (k.waiter t u (f.waiters t u h));
  waits_for_other = λ t u h. k.waits_for_other t u (f.waiters t u h);
  dependent = λ u t h. g.begun t (k.dependent u t (f.dependents u t h));
  depends_on_other = λ u t h. k.depends_on_other u t (f.dependents u t h);
}

-- ---- transactions
record Grown (old new : Txn) : Type 0 where
  begun : is_not_begun old.state ≡ false → is_not_begun new.state ≡ false
  present : is_present old.state ≡ true → is_present new.state ≡ true

going-from : (w new : World) → ((u : ℕ) → Grown (txn_in w.txns u) (txn_in new.txns u)) → Going w new
going-from w new g = record { begun = λ u. (g u).begun; reader = λ u v _. (g u).present; locker = λ u b _. (g u).present; holder = λ u x _. (g u).present }

grown-same : (x : Txn) → Grown x x
grown-same x = record { begun = λ y. y; present = λ y. y }

going-set : (w new : World) (t : ℕ) (x : Txn) → new.txns ≡ set_txn w.txns t x → Grown (txn_in w.txns t) x → Going w new
going-set w new t x e g = going-from w new (λ u. subst (λ ts. Grown (txn_in w.txns u) (txn_in ts u)) (sym e) (each_txn-set (λ n y. Grown (txn_in w.txns n) y) w.txns t x (λ n. grown-same (txn_in w.txns n)) g u))

going-abort : (w : World) (t : ℕ) (cause : _) → Going w (abort w t cause)
going-abort w t cause =
    going-from w (abort w t cause) (each_txn-doom (λ n y. Grown (txn_in w.txns n) y) _ (seconds_of w.dependents t) (λ n y g. record { begun = g.begun; present = g.present })
    (each_txn-set (λ n y. Grown (txn_in w.txns n) y) w.txns t (record (txn_in w.txns t) { state = state.Aborted cause }) (λ n. grown-same (txn_in w.txns n)) (record { begun = λ _. refl; present = λ _. refl })))

-- a transaction that ends holds nothing
going-end : (w : World) (t : ℕ) → holds_nothing w t ≡ true → Going w (end w t)
going-end w t z =
    let none : length (seconds_of w.read_locks t) + length (seconds_of w.bucket_locks t) + length (seconds_of w.waiters t) + length (entries_of w.writes t) ≡ 0 = eqb-true _ 0 z in
    record {
      begun = λ u y. each_txn-set (λ n x. is_not_begun (txn_in w.txns n).state ≡ false → is_not_begun x.state ≡ false) w.txns t (record (txn_in w.txns t) { state = state.Terminated }) (λ n q. q) (λ _. refl) u y;
      reader = λ u v h y. other u (λ e. let l = length-In (seconds_of w.read_locks t) v (In-seconds w.read_locks t v (subst (λ n. has w.read_locks n v ≡ true) e h)) in absurd (omega (arith, l, none))) y;
      locker = λ u b h y. other u (λ e. let l = length-In (seconds_of w.bucket_locks t) b (In-seconds w.bucket_locks t b (subst (λ n. has w.bucket_locks n b ≡ true) e h)) in absurd (omega (arith, l, none))) y;
      holder = λ u x h y. other u (λ e. let l = length-In (seconds_of w.waiters t) x (In-seconds w.waiters t x (subst (λ n. has w.waiters n x ≡ true) e h)) in absurd (omega (arith, l, none))) y;
    }
  where
    other : (u : ℕ) → (u ≡ t → ⊥) → is_present (txn_in w.txns u).state ≡ true → is_present (txn_in (end w t).txns u).state ≡ true
    other u n y = ap (λ (x : Txn). is_present x.state) (txn_in-set_other w.txns t u _ n) ∙ y

pub active-present : (s : State) → s ≡ state.Active → is_present s ≡ true
active-present s a = ap is_present a

active-begun : (s : State) → is_active s ≡ true → is_not_begun s ≡ false
active-begun state.Active a = refl
active-begun state.NotBegun a = cc
active-begun state.Preparing a = refl
active-begun state.Committed a = refl
active-begun (state.Aborted cause) a = refl
active-begun state.Terminated a = refl

held-sealed : (e : Ender) → is_held e ≡ true → is_held (sealed e) ≡ true
held-sealed (EndedAt time) h = h
held-sealed (Held None b) h = refl
held-sealed (Held (Some u) b) h = refl

held-given : (t : ℕ) (e : Ender) → is_held e ≡ true → is_held (given_back t e) ≡ true
held-given t (EndedAt time) h = h
held-given t (Held None b) h = refl
held-given t (Held (Some u) b) h = cond_both (u == t) (Held None false) (Held (Some u) b) (λ e. is_held e ≡ true) (λ _. refl) (λ _. refl)

-- held versions after one is set whose ender is still held
held-set : (vs : List Version) (v : ℕ) (x : Version) (j : ℕ) → (j ≡ v → is_held (version_in vs v).ender ≡ true → is_held x.ender ≡ true) → is_held (version_in vs j).ender ≡ true → is_held (version_in (slice_set vs v x) j).ender ≡ true
held-set vs v x j keeps h =
    ⊎_elim (λ p. ap (λ (y : Version). is_held y.ender) p.1 ∙ keeps p.0 (ap (λ n. is_held (version_in vs n).ender) (sym p.0) ∙ h))
    (λ e. ap (λ (y : Version). is_held y.ender) e ∙ h) (version_in-set vs v j x)

lasting-same : (w new : World) → new.versions ≡ w.versions → new.buckets ≡ w.buckets → Lasting w new
lasting-same w new e b = record {
  count = b;
  there = λ v h. ap (λ vs. is_some (slice_get vs v)) e ∙ h;
  held = λ t v _ h. ap (λ vs. is_held (version_in vs v).ender) e ∙ h;
}

-- no pair changes
fewer-same : (w new : World) → new.read_locks ≡ w.read_locks → new.bucket_locks ≡ w.bucket_locks → new.waiters ≡ w.waiters → new.dependents ≡ w.dependents → Fewer w new
fewer-same w new r b u d = record {
  reads = λ t v h. ap (λ ps. has ps t v) (sym r) ∙ h;
  buckets = λ t x h. ap (λ ps. has ps t x) (sym b) ∙ h;
  waiters = λ t x h. ap (λ ps. has ps t x) (sym u) ∙ h;
  dependents = λ x t h. ap (λ ps. has ps x t) (sym d) ∙ h;
}

module _ (w : World) (k : Listed w) (enders : (v : ℕ) → IsSoundEnder w (version_in w.versions v).ender) where
  pub walked : (t : ℕ) (p : Purpose) (bucket : ℕ) (test : ℕ → Version → Bool) (es : List Effect) → Walking w t p bucket test es → Listed (apply_all t w es)
  walked t p bucket test es y =
      let vs = places test 0 w.versions in
      let L = apply_all t w es in
      let moves = moved w t p bucket test es y in
      let times = apply_all-times t w es in
      let warrant = y.warrant in
      let mine : (u : ℕ) → u ≡ t → (txn_in w.txns u).state ≡ state.Active = λ u e. ap (λ n. (txn_in w.txns n).state) e ∙ y.state in
      let present : (u : ℕ) → is_present (txn_in w.txns u).state ≡ true → is_present (txn_in L.txns u).state ≡ true = λ u q. ap (λ ts. is_present (txn_in ts u).state) times.txns ∙ q in
      let begun : (u : ℕ) → is_not_begun (txn_in w.txns u).state ≡ false → is_not_begun (txn_in L.txns u).state ≡ false = λ u q. ap (λ ts. is_not_begun (txn_in ts u).state) times.txns ∙ q in
      record {
        reader = λ u v h. present u (⊎_elim (k.reader u v) (λ q. ap is_present (mine u q.0)) (reads-from t w es u v h));
        read_there = λ u v h. (moves v).there (⊎_elim (k.read_there u v) (λ q. tested-there test w.versions v (warrant (ReadLock v) q.1).1) (reads-from t w es u v h));
        read_held = λ u v h.
            let old : is_held (version_in w.versions v).ender ≡ true = ⊎_elim (k.read_held u v) (λ q. seen-held w t (version_in w.versions v).creator (version_in w.versions v).ender (enders v) (warrant (ReadLock v) q.1).2) (reads-from t w es u v h) in
            ⊎_elim (λ e. ap is_held e ∙ old) (λ q. ⊎_elim (λ e. ap is_held e ∙ held-cleared w.txns (version_in w.versions v).ender old) (λ z. ap is_held z.0) q) (moves v).ender;
        locker = λ u b h. present u (⊎_elim (k.locker u b) (λ q. ap is_present (mine u q.0)) (locks-from t w es u b h));
        bucket_there = λ u b h. subst (λ n. b < n) (sym times.buckets) (⊎_elim (k.bucket_there u b) (λ q. subst (λ n. n < w.buckets) (sym (warrant (LockBucket b) q.1)) y.there) (locks-from t w es u b h));
        holder = λ u x h. present u (⊎_elim (k.holder u x) (λ q. ap is_present (mine u q.0)) (waiters-from t w es u x h));
        waiter = λ u x h. begun x (⊎_elim (k.waiter u x) (λ q. active-begun _ (warrant (MakeWait x) q.1).0) (waiters-from t w es u x h));
        waits_for_other = λ u x h e. ⊎_elim (λ q. k.waits_for_other u x q e) (λ q. false≢true (sym (warrant (MakeWait x) q.1).1 ∙ eq-eqb x t (sym e ∙ q.0))) (waiters-from t w es u x h);
        dependent = λ u x h. begun x (⊎_elim (k.dependent u x) (λ q. ap is_not_begun (mine x q.1)) (depends-from t w es u x h));
        depends_on_other = λ u x h e. ⊎_elim (λ q. k.depends_on_other u x q e) (λ q. false≢true (sym (ap is_preparing (mine u (e ∙ q.1))) ∙ warrant (DependOn u) q.0)) (depends-from t w es u x h);
      }

  added : (t : ℕ) (L : World) (key value : ℕ) → (txn_in L.txns t).state ≡ state.Active → Listed L → Listed (add_version L t key value)
  added t L key value a o =
      let y : Version = record { key = key; value = value; creator = By t; ender = Held None false } in
      let hs = firsts_of L.bucket_locks (bucket_of L key) in
      record {
        reader = o.reader;
        read_there = λ u v h. range-append L.versions y v (o.read_there u v h);
        read_held = λ u v h. ⊎_elim (λ e. ap (λ (x : Version). is_held x.ender) e ∙ o.read_held u v h) (λ q. ap (λ (x : Version). is_held x.ender) q.1) (append-cases L.versions y v);
        locker = o.locker;
        bucket_there = o.bucket_there;
        holder = λ u x h. ⊎_elim (o.holder u x) (λ q. o.locker u (bucket_of L key) (firsts-In L.bucket_locks u (bucket_of L key) q.0)) (wait-from hs t L.waiters u x h);
        waiter = λ u x h. ⊎_elim (o.waiter u x) (λ q. ap (λ n. is_not_begun (txn_in L.txns n).state) q.1 ∙ ap is_not_begun a) (wait-from hs t L.waiters u x h);
        waits_for_other = λ u x h e. ⊎_elim (λ q. o.waits_for_other u x q e) (λ q. false≢true (sym q.2 ∙ eq-eqb u t (e ∙ q.1))) (wait-from hs t L.waiters u x h);
        dependent = o.dependent;
        depends_on_other = o.depends_on_other;
      }

  -- the lists after an event sets one transaction, and may remove its dependents
  sets : (new : World) (t : ℕ) (x : Txn) → new.txns ≡ set_txn w.txns t x → Fewer w new → new.versions ≡ w.versions → new.buckets ≡ w.buckets → (is_not_begun x.state ≡ false) → (is_present x.state ≡ true) → Listed new
  sets new t x e f v b begun present = listed-from w new f (lasting-same w new v b) (going-set w new t x e (record { begun = λ _. begun; present = λ _. present })) k

  -- the lists after an event sets one version
  stamped : (new : World) (v : ℕ) (x : Version) → new.txns ≡ w.txns → Fewer w new → new.versions ≡ slice_set w.versions v x → new.buckets ≡ w.buckets → ((t : ℕ) → has new.read_locks t v ≡ true → is_held (version_in w.versions v).ender ≡ true → is_held x.ender ≡ true) → Listed new
  stamped new v x e f s b keeps =
      listed-from w new f
      (record {
        count = b;
        there = λ j h. ap (λ vs. is_some (slice_get vs j)) s ∙ there-set w.versions v j x h;
        held = λ t j h y. ap (λ vs. is_held (version_in vs j).ender) s ∙ held-set w.versions v x j (λ same. keeps t (subst (λ n. has new.read_locks t n ≡ true) same h)) y;
      })
      (going-from w new (λ u. subst (λ ts. Grown (txn_in w.txns u) (txn_in ts u)) (sym e) (grown-same (txn_in w.txns u)))) k

  -- the lists after every event, if nobody read-locks a version that a committed transaction ended
  pub listed-step : ((t v : ℕ) (es : List WriteEntry) → IsIn w t state.Committed → entries_of w.writes t ≡ EndOf v ∷ es → (x : ℕ) → has w.read_locks x v ≡ true → ⊥) → EachStep w Listed
  listed-step unread = record {
    same = k;
    aborts = λ t cause _. listed-from w (abort w t cause) (record { reads = λ t v h. h; buckets = λ t b h. h; waiters = λ t u h. h; dependents = λ u x h. has-filter (λ (p : ℕ × ℕ). not (p.0 == t)) w.dependents u x h })
        (lasting-same w (abort w t cause) refl refl) (going-abort w t cause) k;
    begins = λ t p. sets (begin w t) t _ refl (fewer-same w (begin w t) refl refl refl refl) refl refl refl refl;
    walks = λ t p bucket test es y. walked t p bucket test es y;
    adds = λ t p bucket test es key value y. added t (apply_all t w es) key value (ap (λ ts. (txn_in ts t).state) (apply_all-times t w es).txns ∙ y.state) (walked t p bucket test es y);
    finishes = λ t a. sets (finish w t) t _ refl (fewer-same w (finish w t) refl refl refl refl) refl refl (ap is_not_begun a.state) (ap is_present a.state);
    prepares = λ t a _. sets (prepare w t) t _ refl (fewer-same w (prepare w t) refl refl refl refl) refl refl refl refl;
    drops = λ t v _. dropped t v;
    unlocks = λ t b _. listed-from w _ (record { reads = λ u v h. h; buckets = λ u x h. has-filter (λ (p : ℕ × ℕ). not (is_pair t b p)) w.bucket_locks u x h; waiters = λ u x h. h; dependents = λ u x h. h }) (lasting-same w _ refl refl) (going-from w _ (λ u. grown-same (txn_in w.txns u))) k;
    frees = λ t b _. listed-from w _ (record { reads = λ u v h. h; buckets = λ u x h. h; waiters = λ u x h. has-filter (λ (p : ℕ × ℕ). not (is_pair t b p)) w.waiters u x h; dependents = λ u x h. h }) (lasting-same w _ refl refl) (going-from w _ (λ u. grown-same (txn_in w.txns u))) k;
    commits = λ t p _. sets (commit w t) t _ refl (record { reads = λ u v h. h; buckets = λ u b h. h; waiters = λ u x h. h; dependents = λ u x h. has-filter (λ (p : ℕ × ℕ). not (p.0 == t)) w.dependents u x h }) refl refl refl refl;
    stamps_begin = λ t v time _ _. stamped _ v (record (version_in w.versions v) { creator = At time }) refl (fewer-same w _ refl refl refl refl) refl refl (λ x _ h. h);
    stamps_end = λ t v es p is. stamped _ v (with_ender (version_in w.versions v) (EndedAt (txn_in w.txns t).end)) refl (fewer-same w _ refl refl refl refl) refl refl (λ x h _. absurd (unread t v es p is x h));
    gives_back = λ t v _ _ _ _. stamped _ v (with_ender (version_in w.versions v) (given_back t (version_in w.versions v).ender)) refl (fewer-same w _ refl refl refl refl) refl refl (λ x _ h. held-given t (version_in w.versions v).ender h);
    ends = λ t p z. listed-from w (end w t) (fewer-same w (end w t) refl refl refl refl) (lasting-same w (end w t) refl refl) (going-end w t z) k;
  }
    where
      dropped : (t v : ℕ) → Listed (drop_read w t v)
      dropped t v =
          let x = with_ender (version_in w.versions v) (sealed (version_in w.versions v).ender) in
          let zero = readers (leave w.read_locks t v) v == 0 in
          listed-from w (drop_read w t v) (record { reads = λ u j h. has-filter (λ (p : ℕ × ℕ). not (is_pair t v p)) w.read_locks u j h; buckets = λ u b h. h; waiters = λ u x h. h; dependents = λ u x h. h })
          (record {
            count = refl;
            there = λ j h. cond_both zero (slice_set w.versions v x) w.versions (λ vs. is_some (slice_get vs j) ≡ true) (λ _. there-set w.versions v j x h) (λ _. h);
            held = λ u j _ h. cond_both zero (slice_set w.versions v x) w.versions (λ vs. is_held (version_in vs j).ender ≡ true) (λ _. held-set w.versions v x j (λ _ y. held-sealed (version_in w.versions v).ender y) h) (λ _. h);
          })
          (going-from w (drop_read w t v) (λ u. grown-same (txn_in w.txns u))) k
