-- A transaction that others depend on is Preparing, and a committed one depends on nobody, after every event.
use Rattle.std.proofs.Common.{◌≡◌, ℕ, true, false, List, [], ◌∷◌, ◌++◌, refl, ◌∙◌, ap, sym, arith, inl, inr, ⊎_elim, subst, length}
use Rattle.std.proofs.lemmas.Bool.{cases_Bool, cond-true, cond-false, cond_both, false≢true, eqb-true, eq-eqb, ne_eqb, and_parts, or_cases, or_left, or_right}
use Rattle.std.specs.Prelude.{not, ◌==◌, ◌||◌, ◌⊎◌}
use Rattle.hek_rules.specs.declared.event.State.{State}
use Rattle.hek_rules.specs.declared.event.Event.{Event}
use Rattle.hek_rules.specs.declared.reply.Reply.{Reply}
use Rattle.hek_rules.specs.Listing.{has, is_pair, is_among, seconds_of, firsts_of}
use Rattle.hek_rules.specs.World.{World, Txn, txn_in, set_txn, declared, is_decided, is_preparing}
use Rattle.hek_rules.specs.Locks.{reads_freely, add_version}
use Rattle.hek_rules.specs.Waits.{commit_deps}
use Rattle.hek_rules.specs.declared.event.Effect.{Effect}
use Rattle.hek_rules.specs.declared.event.Effect.TheVariants.{LockBucket, DependOn, MakeWait, ReadLock, WriteLock}
use Rattle.hek_rules.specs.Walk.{Allow, Purpose, ToRead, ToWrite, walk, apply, apply_all}
use Rattle.hek_rules.specs.Table.{abort, prepare, end, finish, begin, doom, without_first}
use Rattle.hek_rules.specs.Serial.{committed_by, committed_in}
use Rattle.hek_rules.specs.Run.{next, reply as reply_to}
use Rattle.hek_rules.specs.declared.event.State.TheVariants as state
use Rattle.hek_rules.specs.declared.event.Event.TheVariants as event
use Rattle.hek_rules.specs.declared.reply.Reply.TheVariants as reply
use Rattle.hek_laws.specs.Lists.{In}
use Rattle.hek_laws.proofs.Table.SetTxns.{each_txn-set, each_txn-doom, txn_in-set_other}
use Rattle.hek_laws.proofs.Table.Unchanged.{apply_all-times}
use Rattle.hek_laws.proofs.Table.Cases.{IsActive}
use Rattle.hek_laws.proofs.Table.Changes.{EachChange, each_outcome}
use Rattle.hek_laws.proofs.Worlds.Histories.{committed_in-append}
use Rattle.hek_laws.proofs.Futures.Survivors.{History, has_committed, is_settled, Dependences, Settled, live-uncommitted}
use Rattle.hek_laws.proofs.Futures.PullBack.{declared-set, is_among-append}
use Rattle.hek_laws.proofs.Futures.Invariant.{In-firsts}
use Rattle.hek_laws.proofs.Worlds.AsTold.{committed-more}
use Rattle.hek_laws.proofs.Walks.Warrants.{walk-warrant}
use Rattle.hek_laws.proofs.Lists.Pairs.{has-join_from}

pub depends-from : (t : ℕ) (w : World) (es : List Effect) (u x : ℕ) → has (apply_all t w es).dependents u x ≡ true → (has w.dependents u x ≡ true) ⊎ (In (DependOn u) es × (x ≡ t))
depends-from t w [] u x h = inl h
depends-from t w (e ∷ es) u x h =
    ⊎_elim (λ q. one e q) (λ q. inr (inr q.0, q.1)) (depends-from t (apply t w e) es u x h)
  where
    one : (f : Effect) → has (apply t w f).dependents u x ≡ true → (has w.dependents u x ≡ true) ⊎ (In (DependOn u) (f ∷ es) × (x ≡ t))
    one (LockBucket b) q = inl q
    one (DependOn y) q = ⊎_elim (λ z. inl z) (λ z. inr (inl (ap DependOn z.0), z.1)) (has-join_from w.dependents y t u x q)
    one (MakeWait y) q = inl q
    one (ReadLock v) q = inl (sym (cond_both (reads_freely w t v) w _ (λ (z : World). has z.dependents u x ≡ has w.dependents u x) (λ _. refl) (λ _. refl)) ∙ q)
    one (WriteLock v) q = inl q

first-left : (t : ℕ) (ps : List (ℕ × ℕ)) (u x : ℕ) → has (without_first t ps) u x ≡ true → ((u == t) ≡ false) × (has ps u x ≡ true)
first-left t [] u x h = cc
first-left t (p ∷ ps) u x h =
    ⊎_elim
    (λ out. let q = first-left t ps u x (ap (λ qs. has qs u x) (sym (cond-false (not (p.0 == t)) (p ∷ without_first t ps) (without_first t ps) (ap not out))) ∙ h) in (q.0, or_right (is_pair u x p) _ q.1))
    (λ kept. let g = ap (λ qs. has qs u x) (sym (cond-true (not (p.0 == t)) (p ∷ without_first t ps) (without_first t ps) (ap not kept))) ∙ h in
    ⊎_elim (λ here. (ap (λ m. m == t) (sym (eqb-true p.0 u (and_parts (p.0 == u) (p.1 == x) here).0)) ∙ kept, or_left _ _ here))
    (λ later. let q = first-left t ps u x later in (q.0, or_right (is_pair u x p) _ q.1)) (or_cases _ _ g))
    (cases_Bool (p.0 == t))

declared-doom : (ts : List Txn) (xs : List ℕ) (u : ℕ) → declared ts u ≡ true → declared (doom ts xs) u ≡ true
declared-doom ts [] u h = h
declared-doom ts (x ∷ xs) u h = declared-doom (set_txn ts x (record (txn_in ts x) { abort_now = true })) xs u (declared-set ts x _ u h)

module _ (w : World) (h : History) (d : Dependences w h) (s : Settled w h) where
  plain : (new : World) (e : Event) (r : Reply) → new.dependents ≡ w.dependents → committed_by e r ≡ [] → ((u : ℕ) → is_preparing (txn_in w.txns u).state ≡ true → is_preparing (txn_in new.txns u).state ≡ true) → ((u : ℕ) → declared w.txns u ≡ true → declared new.txns u ≡ true) → Dependences new (h ++ (e, r) ∷ [])
  plain new e r q c p k = record {
    first = λ u t i. p u (d.first u t (ap (λ ps. has ps u t) (sym q) ∙ i));
    second = λ u t i. committed-more h e r t c ∙ d.second u t (ap (λ ps. has ps u t) (sym q) ∙ i);
    known = λ u t i. k t (d.known u t (ap (λ ps. has ps u t) (sym q) ∙ i));
  }

  walked : (p : Purpose) (bucket : ℕ) (vs : List ℕ) (t : ℕ) (es : List Effect) (e : Event) (r : Reply) → IsActive w t false → walk w t p bucket vs ≡ Allow es → committed_by e r ≡ [] → Dependences (apply_all t w es) (h ++ (e, r) ∷ [])
  walked p bucket vs t es e r a ok c =
      let same = (apply_all-times t w es).txns in
      record {
        first = λ u x i. ap (λ ts. is_preparing (txn_in ts u).state) same ∙ ⊎_elim (d.first u x) (λ q. walk-warrant w t bucket vs p es ok (DependOn u) q.0) (depends-from t w es u x i);
        second = λ u x i. committed-more h e r x c ∙ ⊎_elim (d.second u x) (λ q. subst (λ n. has_committed h n ≡ false) (sym q.1) (live-uncommitted w h t s (ap is_settled a.state))) (depends-from t w es u x i);
        known = λ u x i. ap (λ ts. declared ts x) same ∙ ⊎_elim (d.known u x) (λ q. subst (λ n. declared w.txns n ≡ true) (sym q.1) a.known) (depends-from t w es u x i);
      }

  set-plain : (new : World) (t : ℕ) (x : Txn) (e : Event) (r : Reply) → new.txns ≡ set_txn w.txns t x → new.dependents ≡ w.dependents → committed_by e r ≡ [] → (is_preparing (txn_in w.txns t).state ≡ true → is_preparing x.state ≡ true) → Dependences new (h ++ (e, r) ∷ [])
  set-plain new t x e r is q c p = plain new e r q c
      (λ u y. ap (λ ts. is_preparing (txn_in ts u).state) is ∙ each_txn-set (λ n z. is_preparing (txn_in w.txns n).state ≡ true → is_preparing z.state ≡ true) w.txns t x (λ n j. j) p u y)
      (λ u y. ap (λ ts. declared ts u) is ∙ declared-set w.txns t x u y)

  each_dependence : EachChange w (λ e o. Dependences o.world (h ++ (e, o.reply) ∷ []))
  each_dependence = record {
    same = λ e r i _. plain w e r refl i.commits (λ u y. y) (λ u y. y);
    aborts = λ e r t cause i l _. record {
      first = λ u x q. let z = first-left t w.dependents u x q in stay t cause u z.0 (d.first u x z.1);
      second = λ u x q. committed-more h e r x i.commits ∙ d.second u x (first-left t w.dependents u x q).1;
      known = λ u x q. declared-doom _ (seconds_of w.dependents t) x (declared-set w.txns t _ x (d.known u x (first-left t w.dependents u x q).1));
    };
    begins = λ t p _. set-plain (begin w t) t _ (event.Begin t) _ refl refl refl (λ y. absurd (false≢true (sym (ap is_preparing p.state) ∙ y)));
    reads = λ t key es a ok. walked ToRead _ _ t es (event.Read t key) _ a ok refl;
    scans = λ t b es a ok. walked ToRead _ _ t es (event.Scan t b) _ a ok refl;
    exists = λ t key value v es a ok _. walked ToRead _ _ t es (event.Insert t key value) _ a ok refl;
    inserts = λ t key value es a ok _ _. more (apply_all t w es) (add_version (apply_all t w es) t key value) _ refl refl (walked ToRead _ _ t es (event.Insert t key value) reply.Done a ok refl);
    misses_update = λ t key value es a ok _. walked ToWrite _ _ t es (event.Update t key value) _ a ok refl;
    updates = λ t key value v es a ok _. more (apply_all t w es) (add_version (apply_all t w es) t key value) _ refl refl (walked ToWrite _ _ t es (event.Update t key value) reply.Done a ok refl);
    misses_delete = λ t key es a ok _. walked ToWrite _ _ t es (event.Delete t key) _ a ok refl;
    deletes = λ t key v es a ok _. walked ToWrite _ _ t es (event.Delete t key) _ a ok refl;
    finishes = λ t a. set-plain (finish w t) t _ (event.Finish t) _ refl refl refl (λ y. y);
    prepares = λ t a _ _. set-plain (prepare w t) t _ (event.Precommit t) _ refl refl refl (λ y. refl);
    drops = λ t v r _ i _. plain _ (event.Release t) r refl i.commits (λ u y. y) (λ u y. y);
    unlocks = λ t b _. plain _ (event.Release t) _ refl refl (λ u y. y) (λ u y. y);
    frees = λ t u _. plain _ (event.Release t) _ refl refl (λ u y. y) (λ u y. y);
    commits = λ t p z. record {
      first = λ u x q. let f = first-left t w.dependents u x q in
          subst (λ (y : Txn). is_preparing y.state ≡ true) (sym (txn_in-set_other w.txns t u _ (λ e. false≢true (sym f.0 ∙ eq-eqb u t e)))) (d.first u x f.1);
      second = λ u x q. let f = first-left t w.dependents u x q in
          ap (λ xs. is_among xs x) (committed_in-append h ((event.Commit t, reply.Committed) ∷ [])) ∙ is_among-append (committed_in h) (t ∷ []) x
          ∙ ap (λ b. b || ((t == x) || false)) (d.second u x f.1) ∙ ap (λ b. b || false) (ne_eqb t x (λ e. nobody t z u (subst (λ n. has w.dependents u n ≡ true) (sym e) f.1)));
      known = λ u x q. declared-set w.txns t _ x (d.known u x (first-left t w.dependents u x q).1);
    };
    stamps_begin = λ t v _ _ _. plain _ (event.Stamp t) _ refl refl (λ u y. y) (λ u y. y);
    stamps_end = λ t v _ _ _. plain _ (event.Stamp t) _ refl refl (λ u y. y) (λ u y. y);
    voids = λ t v _ _ _ _. plain _ (event.Stamp t) _ refl refl (λ u y. y) (λ u y. y);
    gives_back = λ t v _ _ r _ _ i _. plain _ (event.Stamp t) r refl i.commits (λ u y. y) (λ u y. y);
    ends = λ t p _. set-plain (end w t) t _ (event.End t) _ refl refl refl (λ y. absurd (over-unprepared _ p.over y));
  }
    where
      nobody : (t : ℕ) → commit_deps w t ≡ 0 → (u : ℕ) → has w.dependents u t ≡ true → ⊥
      nobody t z u y = empty (firsts_of w.dependents t) u (In-firsts w.dependents u t y) z
        where
          empty : (xs : List ℕ) (x : ℕ) → In x xs → length xs ≡ 0 → ⊥
          empty [] x i e = i
          empty (y ∷ ys) x i e = absurd (omega (arith, e))

      over-unprepared : (x : State) → is_decided x ≡ true → is_preparing x ≡ true → ⊥
      over-unprepared state.Committed p q = false≢true q
      over-unprepared (state.Aborted c) p q = false≢true q
      over-unprepared state.Active p q = false≢true p
      over-unprepared state.Preparing p q = false≢true p
      over-unprepared state.NotBegun p q = false≢true p
      over-unprepared state.Terminated p q = false≢true p

      more : (l new : World) (later : History) → new.txns ≡ l.txns → new.dependents ≡ l.dependents → Dependences l later → Dependences new later
      more l new later a b x = record {
        first = λ u y q. ap (λ ts. is_preparing (txn_in ts u).state) a ∙ x.first u y (ap (λ ps. has ps u y) (sym b) ∙ q);
        second = λ u y q. x.second u y (ap (λ ps. has ps u y) (sym b) ∙ q);
        known = λ u y q. ap (λ ts. declared ts y) a ∙ x.known u y (ap (λ ps. has ps u y) (sym b) ∙ q);
      }

      stay : (t : ℕ) (cause : _) (u : ℕ) → (u == t) ≡ false → is_preparing (txn_in w.txns u).state ≡ true → is_preparing (txn_in (abort w t cause).txns u).state ≡ true
      stay t cause u n y =
          each_txn-doom (λ m x. (m == t) ≡ false → is_preparing (txn_in w.txns m).state ≡ true → is_preparing x.state ≡ true) (set_txn w.txns t (record (txn_in w.txns t) { state = state.Aborted cause })) (seconds_of w.dependents t) (λ m x f. f)
          (each_txn-set (λ m x. (m == t) ≡ false → is_preparing (txn_in w.txns m).state ≡ true → is_preparing x.state ≡ true) w.txns t _ (λ m e q. q) (λ e q. absurd (false≢true (sym e ∙ eq-eqb t t refl)))) u n y

pub dependences-next : (w : World) (h : History) (e : Event) → Dependences w h → Settled w h → Dependences (next w e) (h ++ (e, reply_to w e) ∷ [])
dependences-next w h e d s = each_outcome w (λ e o. Dependences o.world (h ++ (e, o.reply) ∷ [])) (each_dependence w h d s) e
