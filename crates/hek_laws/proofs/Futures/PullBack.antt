-- Each future after an event is a future before it.
use Rattle.std.proofs.Common.{◌≡◌, ℕ, true, false, List, [], ◌∷◌, ◌++◌, refl, ◌∙◌, ap, sym, inl, inr, ⊎_elim, subst}
use Rattle.std.proofs.lemmas.Bool.{cases_Bool, false≢true, and_parts, or_cases, or_left, or_right, eqb-true, eq-eqb, cond-true, cond-false}
use Rattle.std.specs.Prelude.{not, ◌==◌, ◌||◌, ◌⊎◌}
use Rattle.hek_rules.specs.declared.event.State.TheVariants as state
use Rattle.hek_rules.specs.declared.event.Event.{Event}
use Rattle.hek_rules.specs.declared.reply.Reply.{Reply}
use Rattle.hek_rules.specs.Listing.{has, is_among, seconds_of, is_pair}
use Rattle.hek_rules.specs.World.{World, Txn, txn_in, set_txn, declared, is_preparing}
use Rattle.hek_rules.specs.declared.event.Effect.{Effect}
use Rattle.hek_rules.specs.Walk.{apply_all}
use Rattle.hek_rules.specs.Locks.{add_version}
use Rattle.hek_rules.specs.Table.{abort, commit, doom, without_first, Outcome}
use Rattle.hek_rules.specs.Serial.{committed_in, committed_by}
use Rattle.hek_rules.specs.declared.event.Event.TheVariants as event
use Rattle.hek_rules.specs.declared.reply.Reply.TheVariants as reply
use Rattle.std.specs.Prelude.{zero, suc, is_some, slice_get, slice_set}
use Rattle.hek_laws.specs.Lists.{In}
use Rattle.hek_laws.proofs.Table.SetTxns.{each_txn-set, each_txn-doom, txn_in-set_same}
use Rattle.hek_laws.proofs.Table.Unchanged.{apply_all-times}
use Rattle.hek_laws.proofs.Walks.Judged.{depends-apply_all}
use Rattle.hek_laws.proofs.Worlds.Histories.{committed_in-append, append-nil}
use Rattle.hek_laws.proofs.Table.Cases.{IsPreparing}
use Rattle.hek_laws.proofs.Table.Changes.{IsIdle, EachChange}
use Rattle.hek_laws.proofs.Futures.Survivors.{History, has_committed, is_settled, Dependences, Goes, Settled, live-uncommitted}

idle-committed : (h : History) (e : Event) (r : Reply) → IsIdle e r → committed_in (h ++ (e, r) ∷ []) ≡ committed_in h
idle-committed h e r i = committed_in-append h ((e, r) ∷ []) ∙ ap (λ xs. committed_in h ++ (xs ++ [])) i.commits ∙ append-nil (committed_in h)

pub is_among-append : (xs ys : List ℕ) (n : ℕ) → is_among (xs ++ ys) n ≡ (is_among xs n || is_among ys n)
is_among-append [] ys n = refl
is_among-append (x ∷ xs) ys n = let rest = is_among-append xs ys n in elim (x == n) as (λ b. (b || is_among (xs ++ ys) n) ≡ ((b || is_among xs n) || is_among ys n)) [ true ↦ refl | false ↦ rest ]

pub preparing-unsettled : (w : World) (h : History) (u : ℕ) → Settled w h → is_preparing (txn_in w.txns u).state ≡ true → has_committed h u ≡ false
preparing-unsettled w h u s p = live-uncommitted w h u s (unsettled _ p)
  where
    unsettled : (x : _) → is_preparing x ≡ true → is_settled x ≡ false
    unsettled state.Preparing p = refl
    unsettled state.Active p = refl
    unsettled state.NotBegun p = refl
    unsettled (state.Aborted c) p = refl
    unsettled state.Committed p = cc
    unsettled state.Terminated p = cc

-- what an event keeps that commits no transaction
record Quiet (w new : World) : Type 0 where
  abort_now : (u : ℕ) → (txn_in w.txns u).abort_now ≡ true → (txn_in new.txns u).abort_now ≡ true
  dependence : (u t : ℕ) → has w.dependents u t ≡ true → (has new.dependents u t ≡ true) ⊎ ((txn_in new.txns t).abort_now ≡ true)

quiet : (w new : World) (h : History) (e : Event) (r : Reply) → Dependences w h → Settled w h → committed_in (h ++ (e, r) ∷ []) ≡ committed_in h → Quiet w new → Goes w h new (h ++ (e, r) ∷ [])
quiet w new h e r d s i q = record {
  committed = λ u k. ap (λ xs. is_among xs u) i ∙ k;
  abort_now = λ u p bad k. ⊎_elim (λ x. x) (λ x. absurd (false≢true (sym (preparing-unsettled w h u s p) ∙ sym (ap (λ xs. is_among xs u) i) ∙ x))) (or_cases _ _ k);
  stays = q.abort_now;
  dependence = λ u t k. ⊎_elim (λ x. inl x) (λ x. inr (inr (x, ap (λ xs. is_among xs t) i ∙ d.second u t k))) (q.dependence u t k);
}

-- a doomed transaction has AbortNow, and a list of dooms dooms each of its members
doomed-set : (ts : List Txn) (x : ℕ) → declared ts x ≡ true → (txn_in (set_txn ts x (record (txn_in ts x) { abort_now = true })) x).abort_now ≡ true
doomed-set ts x k = ap (λ (y : Txn). y.abort_now) (txn_in-set_same ts x _ k)

pub declared-set : (ts : List Txn) (t : ℕ) (x : Txn) (u : ℕ) → declared ts u ≡ true → declared (set_txn ts t x) u ≡ true
declared-set ts zero x u h = h
declared-set ts (suc i) x zero h = cc
declared-set ts (suc i) x (suc j) h = there ts i j h
  where
    there : (ts : List Txn) (i j : ℕ) → is_some (slice_get ts j) ≡ true → is_some (slice_get (slice_set ts i x) j) ≡ true
    there [] i j h = cc
    there (y ∷ ys) zero zero h = refl
    there (y ∷ ys) zero (suc j) h = h
    there (y ∷ ys) (suc i) zero h = refl
    there (y ∷ ys) (suc i) (suc j) h = there ys i j h

doomed-doom : (ts : List Txn) (xs : List ℕ) (x : ℕ) → declared ts x ≡ true → In x xs → (txn_in (doom ts xs) x).abort_now ≡ true
doomed-doom ts [] x k i = absurd i
doomed-doom ts (y ∷ ys) x k i =
    let now = set_txn ts y (record (txn_in ts y) { abort_now = true }) in
    ⊎_elim
    (λ here. each_txn-doom (λ n z. n ≡ x → z.abort_now ≡ true) now ys (λ n z f e. refl)
    (λ n e. subst (λ m. (txn_in now m).abort_now ≡ true) (sym (e ∙ here)) (doomed-set ts y (subst (λ m. declared ts m ≡ true) here k))) x refl)
    (λ later. doomed-doom now ys x (declared-set ts y _ x k) later) i

pub In-seconds : (ps : List (ℕ × ℕ)) (a b : ℕ) → has ps a b ≡ true → In b (seconds_of ps a)
In-seconds [] a b h = cc
In-seconds (p ∷ ps) a b h =
    ⊎_elim
    (λ here.
    let parts = and_parts (p.0 == a) (p.1 == b) here in
    subst (In b) (sym (cond-true (p.0 == a) (p.1 ∷ seconds_of ps a) (seconds_of ps a) parts.0)) (inl (sym (eqb-true _ _ parts.1))))
    (λ later. let r = In-seconds ps a b later in
    ⊎_elim (λ y. subst (In b) (sym (cond-true (p.0 == a) (p.1 ∷ seconds_of ps a) (seconds_of ps a) y)) (inr r))
    (λ n. subst (In b) (sym (cond-false (p.0 == a) (p.1 ∷ seconds_of ps a) (seconds_of ps a) n)) r) (cases_Bool (p.0 == a)))
    (or_cases _ _ h)

-- the pairs that begin with another number stay
has-without_first : (ps : List (ℕ × ℕ)) (t a b : ℕ) → (a == t) ≡ false → has ps a b ≡ true → has (without_first t ps) a b ≡ true
has-without_first [] t a b n h = h
has-without_first (p ∷ ps) t a b n h =
    ⊎_elim
    (λ out.
    ⊎_elim
    (λ here.
    let same : p.0 ≡ a = eqb-true _ _ (and_parts (p.0 == a) (p.1 == b) here).0 in
    absurd (false≢true (sym n ∙ ap (λ m. m == t) (sym same) ∙ out)))
    (λ later. subst (λ qs. has qs a b ≡ true) (sym (cond-false _ (p ∷ without_first t ps) (without_first t ps) (ap not out))) (has-without_first ps t a b n later))
    (or_cases _ _ h))
    (λ kept. subst (λ qs. has qs a b ≡ true) (sym (cond-true _ (p ∷ without_first t ps) (without_first t ps) (ap not kept)))
    (⊎_elim (λ here. or_left _ _ here) (λ later. or_right (is_pair a b p) _ (has-without_first ps t a b n later)) (or_cases _ _ h)))
    (cases_Bool (p.0 == t))

module _ (w : World) (h : History) (d : Dependences w h) (s : Settled w h) where
  set-quiet : (t : ℕ) (x : Txn) (new : World) → x.abort_now ≡ (txn_in w.txns t).abort_now → new.txns ≡ set_txn w.txns t x → new.dependents ≡ w.dependents → Quiet w new
  set-quiet t x new e is same = record {
    abort_now = λ u k. subst (λ ts. (txn_in ts u).abort_now ≡ true) (sym is) (each_txn-set (λ n y. (txn_in w.txns n).abort_now ≡ true → y.abort_now ≡ true) w.txns t x (λ n j. j) (λ j. e ∙ j) u k);
    dependence = λ u v k. inl (ap (λ ps. has ps u v) same ∙ k);
  }

  walk-quiet : (t : ℕ) (es : List Effect) → Quiet w (apply_all t w es)
  walk-quiet t es = record {
    abort_now = λ u k. ap (λ ts. (txn_in ts u).abort_now) (apply_all-times t w es).txns ∙ k;
    dependence = λ u v k. inl (depends-apply_all t w es u v k);
  }

  add-quiet : (t : ℕ) (es : List Effect) (key value : ℕ) → Quiet w (add_version (apply_all t w es) t key value)
  add-quiet t es key value = record { abort_now = (walk-quiet t es).abort_now; dependence = (walk-quiet t es).dependence }

  abort-quiet : (t : ℕ) (cause : _) → Quiet w (abort w t cause)
  abort-quiet t cause = record {
    abort_now = λ u k. each_txn-doom (λ n y. (txn_in w.txns n).abort_now ≡ true → y.abort_now ≡ true) _ (seconds_of w.dependents t) (λ n y f j. refl)
        (each_txn-set (λ n y. (txn_in w.txns n).abort_now ≡ true → y.abort_now ≡ true) w.txns t _ (λ n j. j) (λ j. j)) u k;
    dependence = λ u v k. ⊎_elim
        (λ mine. inr (doomed-doom _ (seconds_of w.dependents t) v (declared-set w.txns t _ v (d.known u v k)) (In-seconds w.dependents t v (subst (λ n. has w.dependents n v ≡ true) (eqb-true _ _ mine) k))))
        (λ other. inl (has-without_first w.dependents t u v other k)) (cases_Bool (u == t));
  }

  nothing : Quiet w w
  nothing = record { abort_now = λ u k. k; dependence = λ u v k. inl k }

  commit-goes : (t : ℕ) → IsPreparing w t → Goes w h (commit w t) (h ++ (event.Commit t, reply.Committed) ∷ [])
  commit-goes t p =
      let is : committed_in (h ++ (event.Commit t, reply.Committed) ∷ []) ≡ committed_in h ++ (t ∷ []) = committed_in-append h _ in
      let among : (u : ℕ) → has_committed (h ++ (event.Commit t, reply.Committed) ∷ []) u ≡ (has_committed h u || ((t == u) || false)) = λ u. ap (λ xs. is_among xs u) is ∙ is_among-append (committed_in h) (t ∷ []) u in
      record {
        committed = λ u k. among u ∙ or_left _ _ k;
        abort_now = λ u q bad k. ⊎_elim (λ x. x)
            (λ x. ⊎_elim (λ y. absurd (false≢true (sym (preparing-unsettled w h u s q) ∙ y)))
            (λ y. ⊎_elim (λ z. absurd (false≢true (sym p.hopeful ∙ subst (λ n. (txn_in w.txns n).abort_now ≡ true) (sym (eqb-true _ _ z)) bad))) (λ z. absurd (false≢true z)) (or_cases _ _ y))
            (or_cases _ _ (sym (among u) ∙ x))) (or_cases _ _ k);
        stays = λ u k. each_txn-set (λ n y. (txn_in w.txns n).abort_now ≡ true → y.abort_now ≡ true) w.txns t _ (λ n j. j) (λ j. j) u k;
        dependence = λ u v k. ⊎_elim
            (λ mine. inr (inl (among u ∙ or_right (has_committed h u) _ (or_left _ _ (eq-eqb _ _ (sym (eqb-true _ _ mine)))))))
            (λ other. inl (has-without_first w.dependents t u v other k)) (cases_Bool (u == t));
      }

  pub quiet_reply : (e : Event) (r : Reply) → committed_by e r ≡ [] → committed_in (h ++ (e, r) ∷ []) ≡ committed_in h
  quiet_reply e r i = committed_in-append h ((e, r) ∷ []) ∙ ap (λ xs. committed_in h ++ (xs ++ [])) i ∙ append-nil (committed_in h)

  nothing_but : {new : World} → new.txns ≡ w.txns → new.dependents ≡ w.dependents → Quiet w new
  nothing_but a b = record { abort_now = λ u k. ap (λ ts. (txn_in ts u).abort_now) a ∙ k; dependence = λ u v k. inl (ap (λ ps. has ps u v) b ∙ k) }

  abbrev pub Gone : Event → Outcome → Type 0
  Gone e o = Goes w h o.world (h ++ (e, o.reply) ∷ [])

  pub each_goes : EachChange w Gone
  each_goes = record {
    same = λ e r i _. quiet w w h e r d s (idle-committed h e r i) nothing;
    aborts = λ e r t cause i _ _. quiet w _ h e r d s (idle-committed h e r i) (abort-quiet t cause);
    begins = λ t _ _. quiet w _ h _ _ d s (quiet_reply _ _ refl) (set-quiet t _ _ refl refl refl);
    reads = λ t key es _ _. quiet w _ h _ _ d s (quiet_reply _ _ refl) (walk-quiet t es);
    scans = λ t b es _ _. quiet w _ h _ _ d s (quiet_reply _ _ refl) (walk-quiet t es);
    exists = λ t key value v es _ _ _. quiet w _ h _ _ d s (quiet_reply _ _ refl) (walk-quiet t es);
    inserts = λ t key value es _ _ _ _. quiet w _ h _ _ d s (quiet_reply _ _ refl) (add-quiet t es key value);
    misses_update = λ t key value es _ _ _. quiet w _ h _ _ d s (quiet_reply _ _ refl) (walk-quiet t es);
    updates = λ t key value v es _ _ _. quiet w _ h _ _ d s (quiet_reply _ _ refl) (add-quiet t es key value);
    misses_delete = λ t key es _ _ _. quiet w _ h _ _ d s (quiet_reply _ _ refl) (walk-quiet t es);
    deletes = λ t key v es _ _ _. quiet w _ h _ _ d s (quiet_reply _ _ refl) (walk-quiet t es);
    finishes = λ t _. quiet w _ h _ _ d s (quiet_reply _ _ refl) (set-quiet t _ _ refl refl refl);
    prepares = λ t _ _ _. quiet w _ h _ _ d s (quiet_reply _ _ refl) (set-quiet t _ _ refl refl refl);
    drops = λ t v r _ i _. quiet w _ h _ r d s (idle-committed h _ r i) (nothing_but refl refl);
    unlocks = λ t b _. quiet w _ h _ _ d s (quiet_reply _ _ refl) (nothing_but refl refl);
    frees = λ t u _. quiet w _ h _ _ d s (quiet_reply _ _ refl) (nothing_but refl refl);
    commits = λ t p _. commit-goes t p;
    stamps_begin = λ t v _ _ _. quiet w _ h _ _ d s (quiet_reply _ _ refl) (nothing_but refl refl);
    stamps_end = λ t v _ _ _. quiet w _ h _ _ d s (quiet_reply _ _ refl) (nothing_but refl refl);
    voids = λ t v _ _ _ _. quiet w _ h _ _ d s (quiet_reply _ _ refl) (nothing_but refl refl);
    gives_back = λ t v _ _ r _ _ i _. quiet w _ h _ r d s (idle-committed h _ r i) (nothing_but refl refl);
    ends = λ t _ _. quiet w _ h _ _ d s (quiet_reply _ _ refl) (set-quiet t _ _ refl refl refl);
  }
