-- The read locks of a version in a walk of t: t becomes one more reader, or there are no more readers than before.
use Rattle.std.proofs.Common.{◌≡◌, ℕ, ◌+◌, ◌≤◌, Bool, true, false, List, [], ◌∷◌, ◌++◌, refl, ◌∙◌, ap, sym, arith, inl, inr, ⊎_elim, subst}
use Rattle.std.proofs.lemmas.Bool.{cases_Bool, cases_eq, cond-true, cond-false, cond_both, false≢true, or_parts, or_from, ne_eqb}
use Rattle.std.proofs.lemmas.Bool.Decides.{nat_tests}
use Rattle.std.specs.Prelude.{not, ◌==◌, ◌⊎◌, ◌&&◌, ◌||◌, is_some, slice_get}
use Rattle.hek_rules.specs.declared.event.State.TheVariants.{Active}
use Rattle.hek_rules.specs.declared.event.Effect.{Effect}
use Rattle.hek_rules.specs.declared.event.Effect.TheVariants.{LockBucket, DependOn, MakeWait, ReadLock, WriteLock}
use Rattle.hek_rules.specs.Listing.{has, join, is_pair}
use Rattle.hek_rules.specs.World.{World, Version, txn_in, version_in, is_made_by, places}
use Rattle.hek_rules.specs.Waits.{readers}
use Rattle.hek_rules.specs.Locks.{cleared, reads_freely, with_ender, set_ender}
use Rattle.hek_rules.specs.Walk.{Purpose, ToRead, ToWrite, apply, apply_all}
use Rattle.hek_laws.specs.Lists.{In}
use Rattle.hek_laws.proofs.Walks.Judged.{has-append, has-join}
use Rattle.hek_laws.proofs.Sound.WaitCounts.{version_in-set, readers-filter}
use Rattle.hek_laws.proofs.Walks.Walked.{Good, CanDo, CanAll, good-start, good-apply, clears, version_in-set_same}
use Rattle.hek_laws.proofs.Walks.Walking.{Walking, Locks, can-all}
use Rattle.hek_laws.proofs.Words.Versions.{places-range}
use Rattle.hek_laws.proofs.Lists.Pairs.{has-join_from, has-filter}
use Rattle.hek_laws.proofs.Walks.Warrants.{Warrant}

-- ---- readers after a pair joins
readers-append : (ps : List (ℕ × ℕ)) (t x v : ℕ) → readers (ps ++ (t, x) ∷ []) v ≤ readers ps v + 1
readers-append [] t x v = grind (arith, nat_tests)
readers-append (p ∷ ps) t x v = let rest = readers-append ps t x v in grind (arith, nat_tests, rest)

readers-append_other : (ps : List (ℕ × ℕ)) (t x v : ℕ) → (v ≡ x → ⊥) → readers (ps ++ (t, x) ∷ []) v ≡ readers ps v
readers-append_other [] t x v n = grind (arith, nat_tests)
readers-append_other (p ∷ ps) t x v n = let rest = readers-append_other ps t x v n in grind (arith, nat_tests, rest)

readers-join : (ps : List (ℕ × ℕ)) (t x v : ℕ) → readers (join ps t x) v ≤ readers ps v + 1
readers-join ps t x v = cond_both (has ps t x) ps (ps ++ (t, x) ∷ []) (λ qs. readers qs v ≤ readers ps v + 1) (λ _. omega arith) (λ _. readers-append ps t x v)

readers-join_other : (ps : List (ℕ × ℕ)) (t x v : ℕ) → (v ≡ x → ⊥) → readers (join ps t x) v ≡ readers ps v
readers-join_other ps t x v n = cond_both (has ps t x) ps (ps ++ (t, x) ∷ []) (λ qs. readers qs v ≡ readers ps v) (λ _. refl) (λ _. readers-append_other ps t x v n)

has-join_other : (ps : List (ℕ × ℕ)) (t x v : ℕ) → (v ≡ x → ⊥) → has (join ps t x) t v ≡ has ps t v
has-join_other ps t x v n = cond_both (has ps t x) ps (ps ++ (t, x) ∷ []) (λ qs. has qs t v ≡ has ps t v) (λ _. refl) (λ _. has-append ps ((t, x) ∷ []) t v ∙ ap (λ b. has ps t v || ((t == t && b) || false)) (ne_eqb x v (λ e. n (sym e))) ∙ nothing (has ps t v) (t == t))
  where
    nothing : (a b : Bool) → (a || ((b && false) || false)) ≡ a
    nothing true b = refl
    nothing false true = refl
    nothing false false = refl

-- ---- a walk that write-locks nothing
pub record Fresh (w : World) (t : ℕ) (R : ℕ → Type 0) (cur : World) (v : ℕ) : Type 0 where
  pub free : reads_freely w t v ≡ false
  pub warrant : R v
  pub mine : has cur.read_locks t v ≡ true
  pub readers : readers cur.read_locks v ≤ readers w.read_locks v + 1
  pub ender : (version_in cur.versions v).ender ≡ cleared w.txns (version_in w.versions v).ender

pub record Plain (w : World) (t : ℕ) (cur : World) (v : ℕ) : Type 0 where
  pub same : has cur.read_locks t v ≡ has w.read_locks t v
  pub readers : readers cur.read_locks v ≡ readers w.read_locks v

-- the read locks among the effects have their conditions
abbrev CanRead : (ℕ → Type 0) → Effect → Type 0
CanRead R (LockBucket b) = Unit {0}
CanRead R (DependOn u) = Unit {0}
CanRead R (MakeWait u) = Unit {0}
CanRead R (ReadLock v) = R v
CanRead R (WriteLock v) = Unit {0}

module _ (w : World) (t : ℕ) (W R : ℕ → Type 0) (active : (txn_in w.txns t).state ≡ Active) (never : (v : ℕ) → W v → ⊥) (range : (v : ℕ) → R v → is_some (slice_get w.versions v) ≡ true) where
  abbrev At : World → ℕ → Type 0
  At cur v = Plain w t cur v ⊎ Fresh w t R cur v

  at-from : (old new : World) → new.read_locks ≡ old.read_locks → new.versions ≡ old.versions → (v : ℕ) → At old v → At new v
  at-from old new a b v c =
      ⊎_elim (λ p. inl (record { same = ap (λ ps. has ps t v) a ∙ p.same; readers = ap (λ ps. readers ps v) a ∙ p.readers }))
      (λ p. inr (record {
        free = p.free;
        warrant = p.warrant;
        mine = ap (λ ps. has ps t v) a ∙ p.mine;
        readers = subst (λ ps. readers ps v ≤ readers w.read_locks v + 1) (sym a) p.readers;
        ender = ap (λ vs. (version_in vs v).ender) b ∙ p.ender;
      })) c

  step : (cur : World) (e : Effect) → Good w t W cur → CanDo W e → CanRead R e → ((v : ℕ) → At cur v) → (v : ℕ) → At (apply t cur e) v
  step cur (LockBucket b) g c r old v = at-from cur (apply t cur (LockBucket b)) refl refl v (old v)
  step cur (DependOn u) g c r old v = at-from cur (apply t cur (DependOn u)) refl refl v (old v)
  step cur (MakeWait u) g c r old v = at-from cur (apply t cur (MakeWait u)) refl refl v (old v)
  step cur (WriteLock x) g c r old v = absurd (never x c)
  step cur (ReadLock x) g c r old v =
      cond_both (reads_freely cur t x) cur _ (λ (z : World). At z v) (λ _. old v)
      (λ free. ⊎_elim (λ same. subst (λ n. At (locked x) n) (sym same) (here free)) (λ other. there other) (cases_eq v x))
    where
      locked : ℕ → World
      locked x = record cur { versions = set_ender cur.versions x (cleared cur.txns (version_in cur.versions x).ender); read_locks = join cur.read_locks t x }

      here : reads_freely cur t x ≡ false → At (locked x) x
      here free =
          let out = or_parts _ _ free in
          ⊎_elim
          (λ p. let r2 = range x r in inr (record {
            free = or_from _ _ (ap (is_made_by t) (sym (g.moved x).creator) ∙ out.0) (sym p.same ∙ out.1);
            warrant = r;
            mine = has-join cur.read_locks t x;
            readers = (let one = readers-join cur.read_locks t x x in let few = p.readers in omega arith);
            ender = ap (λ (y : Version). y.ender) (version_in-set_same cur.versions x _ ((g.moved x).there r2)) ∙ ⊎_elim (λ e. e) (λ q. absurd (never x q.1)) (clears w t W active cur x g);
          }))
          (λ p. absurd (false≢true (sym out.1 ∙ p.mine))) (old x)

      there : (v ≡ x → ⊥) → At (locked x) v
      there other =
          let ender = ⊎_elim (λ p. absurd (other p.0)) (λ e. ap (λ (y : Version). y.ender) e) (version_in-set cur.versions x v (with_ender (version_in cur.versions x) (cleared cur.txns (version_in cur.versions x).ender))) in
          let held = has-join_other cur.read_locks t x v other in
          let count = readers-join_other cur.read_locks t x v other in
          ⊎_elim
          (λ p. inl (record { same = held ∙ p.same; readers = count ∙ p.readers }))
          (λ p. inr (record { free = p.free; warrant = p.warrant; mine = held ∙ p.mine; readers = (let few = p.readers in omega arith); ender = ender ∙ p.ender })) (old v)

  steps : (cur : World) (es : List Effect) → Good w t W cur → CanAll W es → ((e : Effect) → In e es → CanRead R e) → ((v : ℕ) → At cur v) → (v : ℕ) → At (apply_all t cur es) v
  steps cur [] g c r old v = old v
  steps cur (e ∷ es) g c r old v =
      steps (apply t cur e) es (good-apply w t W active cur e (c.each e (inl refl)) g) (record { each = λ f i. c.each f (inr i) }) (λ f i. r f (inr i)) (step cur e g (c.each e (inl refl)) (r e (inl refl)) old) v

-- ---- a walk that read-locks nothing
fewer : (t : ℕ) (cur : World) (es : List Effect) → ((v : ℕ) → In (ReadLock v) es → ⊥) → (v : ℕ) → readers (apply_all t cur es).read_locks v ≤ readers cur.read_locks v
fewer t cur [] n v = omega arith
fewer t cur (e ∷ es) n v =
    let rest : readers (apply_all t (apply t cur e) es).read_locks v ≤ readers (apply t cur e).read_locks v = fewer t (apply t cur e) es (λ x i. n x (inr i)) v in
    let first : readers (apply t cur e).read_locks v ≤ readers cur.read_locks v = one e (λ x i. n x (inl i)) in
    omega (arith, rest, first)
  where
    one : (f : Effect) → ((x : ℕ) → ReadLock x ≡ f → ⊥) → readers (apply t cur f).read_locks v ≤ readers cur.read_locks v
    one (LockBucket b) m = omega arith
    one (DependOn u) m = omega arith
    one (MakeWait u) m = omega arith
    one (ReadLock x) m = absurd (m x refl)
    one (WriteLock x) m = readers-filter (λ (q : ℕ × ℕ). not (is_pair t x q)) cur.read_locks v

-- a read lock after a walk was there before, or the walk took it
pub reads-from : (t : ℕ) (w : World) (es : List Effect) (u v : ℕ) → has (apply_all t w es).read_locks u v ≡ true → (has w.read_locks u v ≡ true) ⊎ ((u ≡ t) × In (ReadLock v) es)
reads-from t w [] u v h = inl h
reads-from t w (e ∷ es) u v h = ⊎_elim (λ q. one e q) (λ q. inr (q.0, inr q.1)) (reads-from t (apply t w e) es u v h)
  where
    one : (f : Effect) → has (apply t w f).read_locks u v ≡ true → (has w.read_locks u v ≡ true) ⊎ ((u ≡ t) × In (ReadLock v) (f ∷ es))
    one (LockBucket b) q = inl q
    one (DependOn x) q = inl q
    one (MakeWait x) q = inl q
    one (ReadLock x) q =
        ⊎_elim (λ y. inl (ap (λ (z : World). has z.read_locks u v) (sym (cond-true (reads_freely w t x) w _ y)) ∙ q))
        (λ n. ⊎_elim (λ z. inl z) (λ z. inr (z.0, inl (ap ReadLock z.1))) (has-join_from w.read_locks t x u v (ap (λ (z : World). has z.read_locks u v) (sym (cond-false (reads_freely w t x) w _ n)) ∙ q))) (cases_Bool (reads_freely w t x))
    one (WriteLock x) q = inl (has-filter (λ (p : ℕ × ℕ). not (is_pair t x p)) w.read_locks u v q)

-- the versions of a walk exist
pub tested-there : (test : ℕ → Version → Bool) (vs : List Version) (v : ℕ) → In v (places test 0 vs) → is_some (slice_get vs v) ≡ true
tested-there test vs v i =
    let q = places-range test 0 vs v i in
    let same : q.0 ≡ v = (let e = q.1 in omega (arith, e)) in
    subst (λ n. is_some (slice_get vs n) ≡ true) same q.2

-- the read locks of a version after a walk to read
pub read-locks : (w : World) (t : ℕ) (bucket : ℕ) (test : ℕ → Version → Bool) (es : List Effect) → Walking w t ToRead bucket test es → (v : ℕ) →
    Plain w t (apply_all t w es) v ⊎ Fresh w t (λ n. Warrant w t ToRead bucket (places test 0 w.versions) (ReadLock n)) (apply_all t w es) v
read-locks w t bucket test es k v =
    steps w t (Locks w es) (λ n. Warrant w t ToRead bucket (places test 0 w.versions) (ReadLock n)) k.state
    (λ n c. let q : ToRead ≡ ToWrite = (k.warrant (WriteLock n) c.1).0 in cc) (λ n r. tested-there test w.versions n r.1) w es (good-start w t (Locks w es)) (can-all w t ToRead bucket test es k) can
    (λ n. inl (record { same = refl; readers = refl })) v
  where
    can : (e : Effect) → In e es → CanRead (λ n. Warrant w t ToRead bucket (places test 0 w.versions) (ReadLock n)) e
    can (LockBucket b) i = tt
    can (DependOn u) i = tt
    can (MakeWait u) i = tt
    can (ReadLock n) i = k.warrant (ReadLock n) i
    can (WriteLock n) i = tt

pub walk-locks : (w : World) (t : ℕ) (p : Purpose) (bucket : ℕ) (test : ℕ → Version → Bool) (es : List Effect) → Walking w t p bucket test es → (v : ℕ) →
    (readers (apply_all t w es).read_locks v ≤ readers w.read_locks v) ⊎ Fresh w t (λ n. Warrant w t p bucket (places test 0 w.versions) (ReadLock n)) (apply_all t w es) v
walk-locks w t ToRead bucket test es k v = ⊎_elim (λ p. inl (let same = p.readers in omega (arith, same))) (λ p. inr p) (read-locks w t bucket test es k v)
walk-locks w t ToWrite bucket test es k v =
    inl (fewer t w es (λ n i. let q : ToWrite ≡ ToRead = (k.warrant (ReadLock n) i).0 in cc) v)

-- a bucket lock after a walk was there before, or the walk took it
pub locks-from : (t : ℕ) (w : World) (es : List Effect) (u b : ℕ) → has (apply_all t w es).bucket_locks u b ≡ true → (has w.bucket_locks u b ≡ true) ⊎ ((u ≡ t) × In (LockBucket b) es)
locks-from t w [] u b h = inl h
locks-from t w (e ∷ es) u b h = ⊎_elim (λ q. one e q) (λ q. inr (q.0, inr q.1)) (locks-from t (apply t w e) es u b h)
  where
    one : (f : Effect) → has (apply t w f).bucket_locks u b ≡ true → (has w.bucket_locks u b ≡ true) ⊎ ((u ≡ t) × In (LockBucket b) (f ∷ es))
    one (LockBucket x) q = ⊎_elim (λ z. inl z) (λ z. inr (z.0, inl (ap LockBucket z.1))) (has-join_from w.bucket_locks t x u b q)
    one (DependOn x) q = inl q
    one (MakeWait x) q = inl q
    one (ReadLock x) q = inl (sym (cond_both (reads_freely w t x) w _ (λ (z : World). has z.bucket_locks u b ≡ has w.bucket_locks u b) (λ _. refl) (λ _. refl)) ∙ q)
    one (WriteLock x) q = inl q

pub waiters-from : (t : ℕ) (w : World) (es : List Effect) (u x : ℕ) → has (apply_all t w es).waiters u x ≡ true → (has w.waiters u x ≡ true) ⊎ ((u ≡ t) × In (MakeWait x) es)
waiters-from t w [] u x h = inl h
waiters-from t w (e ∷ es) u x h = ⊎_elim (λ q. one e q) (λ q. inr (q.0, inr q.1)) (waiters-from t (apply t w e) es u x h)
  where
    one : (f : Effect) → has (apply t w f).waiters u x ≡ true → (has w.waiters u x ≡ true) ⊎ ((u ≡ t) × In (MakeWait x) (f ∷ es))
    one (LockBucket b) q = inl q
    one (DependOn y) q = inl q
    one (MakeWait y) q = ⊎_elim (λ z. inl z) (λ z. inr (z.0, inl (ap MakeWait z.1))) (has-join_from w.waiters t y u x q)
    one (ReadLock v) q = inl (sym (cond_both (reads_freely w t v) w _ (λ (z : World). has z.waiters u x ≡ has w.waiters u x) (λ _. refl) (λ _. refl)) ∙ q)
    one (WriteLock v) q = inl q
