-- A finished transaction waits for no more after any event than before.
use Rattle.std.proofs.Common.{◌≡◌, ℕ, ◌+◌, ◌<◌, ◌≤◌, Bool, true, false, List, [], ◌∷◌, ◌++◌, Some, None, refl, ◌∙◌, ap, sym, arith, inl, inr, ⊎_elim, subst, length}
use Rattle.std.proofs.lemmas.Bool.{cases_Bool, cond-true, cond-false, cond_both, false≢true, and_parts, and_from, eqb-true, ne_eqb, lt-ltb}
use Rattle.std.specs.Prelude.{not, nat_lt, ◌==◌, if◌then◌else◌, slice_set}
use Rattle.hek_rules.specs.declared.event.Effect.{Effect}
use Rattle.hek_rules.specs.declared.event.Effect.TheVariants.{LockBucket, DependOn, MakeWait, ReadLock, WriteLock}
use Rattle.hek_rules.specs.declared.word.BeginRecord.TheVariants.{At, By}
use Rattle.hek_rules.specs.Listing.{has, join, is_pair, firsts_of}
use Rattle.hek_rules.specs.World.{World, Version, Ender, EndedAt, Held, txn_in, version_in, places, is_held_by, bucket_of}
use Rattle.hek_rules.specs.Waits.{readers, is_waited_for, waits}
use Rattle.hek_rules.specs.Locks.{cleared, reads_freely, wait_for_holders, with_ender}
use Rattle.hek_rules.specs.Walk.{Purpose, apply, apply_all}
use Rattle.hek_rules.specs.Table.{given_back}
use Rattle.hek_laws.specs.Lists.{In}
use Rattle.hek_laws.specs.Sound.{IsSoundEnder}
use Rattle.hek_laws.proofs.Sound.WaitCounts.{places-le, version_in-set, readers-filter, length-set, more_readers, passed, failed, waits-drop_read}
use Rattle.hek_laws.proofs.Words.Walks.{cleared-held}
use Rattle.hek_laws.proofs.Walks.ReadLocks.{walk-locks}
use Rattle.hek_laws.proofs.Sound.Flags.{Flags, fresh-open}
use Rattle.hek_laws.proofs.Table.WorldSteps.{EachStep}
use Rattle.hek_laws.proofs.Walks.Walking.{Walking, moved}

-- ---- the versions of a world that walks
length-apply : (t : ℕ) (w : World) (e : Effect) → length (apply t w e).versions ≡ length w.versions
length-apply t w (LockBucket b) = refl
length-apply t w (DependOn u) = refl
length-apply t w (MakeWait u) = refl
length-apply t w (ReadLock v) = cond_both (reads_freely w t v) w _ (λ (z : World). length z.versions ≡ length w.versions) (λ _. refl) (λ _. length-set w.versions v _)
length-apply t w (WriteLock v) = length-set w.versions v _

pub length-walked : (t : ℕ) (w : World) (es : List Effect) → length (apply_all t w es).versions ≡ length w.versions
length-walked t w [] = refl
length-walked t w (e ∷ es) = length-walked t (apply t w e) es ∙ length-apply t w e

-- ---- the waiting lists
firsts-join_other : (ps : List (ℕ × ℕ)) (a b u : ℕ) → (b == u) ≡ false → firsts_of (join ps a b) u ≡ firsts_of ps u
firsts-join_other ps a b u n = cond_both (has ps a b) ps (ps ++ (a, b) ∷ []) (λ qs. firsts_of qs u ≡ firsts_of ps u) (λ _. refl) (λ _. appended ps)
  where
    appended : (qs : List (ℕ × ℕ)) → firsts_of (qs ++ (a, b) ∷ []) u ≡ firsts_of qs u
    appended [] = cond-false (b == u) (a ∷ []) [] n
    appended (q ∷ qs) = ap (λ xs. if q.1 == u then q.0 ∷ xs else xs) (appended qs)

firsts-walked : (t : ℕ) (w : World) (es : List Effect) (u : ℕ) → ((x : ℕ) → In (MakeWait x) es → (x == u) ≡ false) → firsts_of (apply_all t w es).waiters u ≡ firsts_of w.waiters u
firsts-walked t w [] u n = refl
firsts-walked t w (e ∷ es) u n = firsts-walked t (apply t w e) es u (λ x i. n x (inr i)) ∙ one e (λ x i. n x (inl i))
  where
    one : (f : Effect) → ((x : ℕ) → MakeWait x ≡ f → (x == u) ≡ false) → firsts_of (apply t w f).waiters u ≡ firsts_of w.waiters u
    one (LockBucket b) m = refl
    one (DependOn x) m = refl
    one (MakeWait x) m = firsts-join_other w.waiters t x u (m x refl)
    one (ReadLock v) m = cond_both (reads_freely w t v) w _ (λ (z : World). firsts_of z.waiters u ≡ firsts_of w.waiters u) (λ _. refl) (λ _. refl)
    one (WriteLock v) m = refl

firsts-wait : (hs : List ℕ) (t u : ℕ) (ps : List (ℕ × ℕ)) → (t == u) ≡ false → firsts_of (wait_for_holders hs t ps) u ≡ firsts_of ps u
firsts-wait [] t u ps n = refl
firsts-wait (h ∷ hs) t u ps n =
    cond_both (h == t) (wait_for_holders hs t ps) (wait_for_holders hs t (join ps h t)) (λ qs. firsts_of qs u ≡ firsts_of ps u) (λ _. firsts-wait hs t u ps n)
    (λ _. firsts-wait hs t u (join ps h t) n ∙ firsts-join_other ps h t u n)

-- a new version that nobody writes adds no wait
places-more : (test : ℕ → Version → Bool) (i : ℕ) (vs : List Version) (y : Version) → ((n : ℕ) → test n y ≡ false) → length (places test i (vs ++ y ∷ [])) ≡ length (places test i vs)
places-more test i [] y n = failed test i y [] (n i)
places-more test i (x ∷ xs) y n =
    let rest = places-more test (i + 1) xs y n in
    ⊎_elim (λ q. passed test i x (xs ++ y ∷ []) q ∙ ap (λ m. m + 1) rest ∙ sym (passed test i x xs q))
    (λ q. failed test i x (xs ++ y ∷ []) q ∙ rest ∙ sym (failed test i x xs q)) (cases_Bool (test i x))

held-is : (u : ℕ) (e : Ender) → is_held_by u e ≡ true → (b : Bool) × (e ≡ Held (Some u) b)
held-is u (EndedAt time) h = absurd (false≢true h)
held-is u (Held None b) h = absurd (false≢true h)
held-is u (Held (Some x) b) h = (b, ap (λ n. Held (Some n) b) (eqb-true x u h))

held-given : (u t : ℕ) (e : Ender) → is_held_by u (given_back t e) ≡ true → is_held_by u e ≡ true
held-given u t (EndedAt time) h = h
held-given u t (Held None b) h = h
held-given u t (Held (Some x) b) h =
    ⊎_elim (λ y. absurd (false≢true (ap (is_held_by u) (sym (cond-true (x == t) (Held None false) (Held (Some x) b) y)) ∙ h)))
    (λ n. ap (is_held_by u) (sym (cond-false (x == t) (Held None false) (Held (Some x) b) n)) ∙ h) (cases_Bool (x == t))

above : (n : ℕ) → (n ≡ 0 → ⊥) → 0 < n
above n ne = omega (arith, ne)

abbrev Falls : World → World → Type 0
Falls w new = (u : ℕ) → (txn_in w.txns u).no_more_waits ≡ true → waits new u ≤ waits w u

module _ (w : World) (f : Flags w.read_locks w.versions) (enders : (v : ℕ) → IsSoundEnder w (version_in w.versions v).ender) where
  -- a version whose new ender has no new writer adds no wait
  set-falls : (v : ℕ) (x : Version) (u : ℕ) → (is_held_by u x.ender ≡ true → is_held_by u (version_in w.versions v).ender ≡ true) →
      length (places (is_waited_for w.read_locks u) 0 (slice_set w.versions v x)) ≤ length (places (is_waited_for w.read_locks u) 0 w.versions)
  set-falls v x u h =
      places-le (is_waited_for w.read_locks u) (is_waited_for w.read_locks u) 0 w.versions (slice_set w.versions v x) (length-set w.versions v x)
      (λ j k is y. let parts = and_parts _ _ y in
      and_from _ _ (⊎_elim (λ p. subst (λ n. is_held_by u (version_in w.versions n).ender ≡ true) (sym p.0) (h (ap (λ (z : Version). is_held_by u z.ender) (sym p.1) ∙ parts.0)))
      (λ e. ap (λ (z : Version). is_held_by u z.ender) (sym e) ∙ parts.0) (version_in-set w.versions v j x)) parts.1)

  -- a walker has not finished, so a finished transaction is another one
  other : (t u : ℕ) → (txn_in w.txns t).no_more_waits ≡ false → (txn_in w.txns u).no_more_waits ≡ true → (t == u) ≡ false
  other t u a b = ne_eqb t u (λ e. false≢true (sym a ∙ ap (λ n. (txn_in w.txns n).no_more_waits) e ∙ b))

  versions-fall : (t : ℕ) (p : Purpose) (bucket : ℕ) (test : ℕ → Version → Bool) (es : List Effect) → Walking w t p bucket test es → (u : ℕ) → (txn_in w.txns u).no_more_waits ≡ true →
      length (places (is_waited_for (apply_all t w es).read_locks u) 0 (apply_all t w es).versions) ≤ length (places (is_waited_for w.read_locks u) 0 w.versions)
  versions-fall t p bucket test es k u done =
      let vs = places test 0 w.versions in
      let L = apply_all t w es in
      let moves = moved w t p bucket test es k in
      places-le (is_waited_for w.read_locks u) (is_waited_for L.read_locks u) 0 w.versions L.versions (length-walked t w es)
      (λ j v is y.
      let at : v ≡ j = (omega (arith, is)) in
      let parts = and_parts (is_held_by u (version_in L.versions j).ender) (nat_lt 0 (readers L.read_locks v)) y in
      let held : is_held_by u (version_in L.versions v).ender ≡ true = ap (λ n. is_held_by u (version_in L.versions n).ender) at ∙ parts.0 in
      subst (λ n. is_waited_for w.read_locks u v (version_in w.versions n) ≡ true) at
      (⊎_elim
      (λ less. and_from _ _
      (⊎_elim (λ e. ap (is_held_by u) (sym e) ∙ held) (λ q. ⊎_elim (λ e. cleared-held w.txns u (version_in w.versions v).ender (ap (is_held_by u) (sym e) ∙ held))
      (λ z. absurd (false≢true (sym (other t u k.no_more_waits done) ∙ ap (is_held_by u) (sym z.0) ∙ held))) q) (moves v).ender)
      (more_readers _ _ less parts.1))
      (λ new.
      let was : is_held_by u (cleared w.txns (version_in w.versions v).ender) ≡ true = ap (is_held_by u) (sym new.ender) ∙ held in
      let name = held-is u (cleared w.txns (version_in w.versions v).ender) was in
      let free = fresh-open w f enders t p bucket vs L v new in
      and_from _ _ (cleared-held w.txns u (version_in w.versions v).ender was)
      (lt-ltb 0 (readers w.read_locks v) (above (readers w.read_locks v) (λ z. false≢true (sym (free.first u name.0 name.1 z) ∙ done)))))
      (walk-locks w t p bucket test es k v)))

  waiters-same : (t : ℕ) (p : Purpose) (bucket : ℕ) (test : ℕ → Version → Bool) (es : List Effect) → Walking w t p bucket test es → (u : ℕ) → (txn_in w.txns u).no_more_waits ≡ true → firsts_of (apply_all t w es).waiters u ≡ firsts_of w.waiters u
  waiters-same t p bucket test es k u done =
      firsts-walked t w es u (λ x i. ne_eqb x u (λ e. false≢true (sym (k.warrant (MakeWait x) i).2 ∙ ap (λ n. (txn_in w.txns n).no_more_waits) e ∙ done)))

  pub walk-falls : (t : ℕ) (p : Purpose) (bucket : ℕ) (test : ℕ → Version → Bool) (es : List Effect) → Walking w t p bucket test es → Falls w (apply_all t w es)
  walk-falls t p bucket test es k u done =
      let less = versions-fall t p bucket test es k u done in
      let same = ap length (waiters-same t p bucket test es k u done) in
      omega (arith, less, same)

  pub waits-fall : EachStep w (Falls w)
  waits-fall = record {
    same = λ u _. omega arith;
    aborts = λ t cause _ u _. omega arith;
    begins = λ t _ u _. omega arith;
    walks = walk-falls;
    adds = λ t p bucket test es key value k u done.
        let L = apply_all t w es in
        let less = versions-fall t p bucket test es k u done in
        let more = places-more (is_waited_for L.read_locks u) 0 L.versions (record { key = key; value = value; creator = By t; ender = Held None false }) (λ n. refl) in
        let same = ap length (firsts-wait (firsts_of L.bucket_locks (bucket_of L key)) t u L.waiters (other t u k.no_more_waits done) ∙ waiters-same t p bucket test es k u done) in
        omega (arith, less, more, same);
    finishes = λ t _ u _. omega arith;
    prepares = λ t _ _ u _. omega arith;
    drops = λ t v _ u _. waits-drop_read w t v u;
    unlocks = λ t b _ u _. omega arith;
    frees = λ t x _ u _. (let less = readers-filter (λ (q : ℕ × ℕ). not (is_pair t x q)) w.waiters u in omega (arith, less));
    commits = λ t _ _ u _. omega arith;
    stamps_begin = λ t v time _ _ u _. (let less = set-falls v (record (version_in w.versions v) { creator = At time }) u (λ h. h) in omega (arith, less));
    stamps_end = λ t v es _ _ u _. (let less = set-falls v (with_ender (version_in w.versions v) (EndedAt (txn_in w.txns t).end)) u (λ h. absurd (false≢true h)) in omega (arith, less));
    gives_back = λ t v _ _ _ _ u _. (let less = set-falls v (with_ender (version_in w.versions v) (given_back t (version_in w.versions v).ender)) u (held-given u t (version_in w.versions v).ender) in omega (arith, less));
    ends = λ t _ _ u _. omega arith;
  }
