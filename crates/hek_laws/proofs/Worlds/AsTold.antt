-- The replies that each transaction got fit its state, after every event.
use Rattle.std.proofs.Common.{◌≡◌, ℕ, Bool, true, false, List, [], ◌∷◌, ◌++◌, Some, None, refl, ◌∙◌, ap, sym, ⊎_elim, subst}
use Rattle.std.proofs.lemmas.Bool.{cases_Bool, cond-true, cond-false, false≢true, eqb-true, eq-eqb, ne_eqb, or_cases, or_left, or_right, false_from_ne_true}
use Rattle.std.specs.Prelude.{◌==◌, ◌||◌}
use Rattle.hek_rules.specs.declared.event.State.{State}
use Rattle.hek_rules.specs.declared.event.Event.{Event}
use Rattle.hek_rules.specs.declared.reply.Reply.{Reply}
use Rattle.hek_rules.specs.Listing.{seconds_of, is_among}
use Rattle.hek_rules.specs.World.{World, Txn, txn_in, set_txn, declared, is_live, is_preparing}
use Rattle.hek_rules.specs.declared.event.Effect.{Effect}
use Rattle.hek_rules.specs.Walk.{apply_all}
use Rattle.hek_rules.specs.Table.{Outcome, abort, commit, prepare}
use Rattle.hek_rules.specs.Serial.{committed_in, committed_by, end_of, end_drawn, is_of}
use Rattle.std.specs.Option.{option_or}
use Rattle.hek_rules.specs.Run.{next, reply as reply_to}
use Rattle.hek_rules.specs.declared.event.State.TheVariants as state
use Rattle.hek_rules.specs.declared.event.Event.TheVariants as event
use Rattle.hek_rules.specs.declared.reply.Reply.TheVariants as reply
use Rattle.hek_laws.proofs.Table.SetTxns.{each_txn-doom, txn_in-set, txn_in-set_same}
use Rattle.hek_laws.proofs.Table.Unchanged.{apply_all-times, end-abort}
use Rattle.hek_laws.proofs.Table.Cases.{IsPreparing, IsActive, IsLive, is_past}
use Rattle.hek_laws.proofs.Table.Changes.{IsIdle, IsMute, EachChange, each_outcome, is_refusal}
use Rattle.hek_laws.proofs.Worlds.Histories.{committed_in-append, end_of-append, append-nil, option_or-none}
use Rattle.hek_laws.proofs.Futures.Survivors.{History, has_committed, is_settled}
use Rattle.hek_laws.proofs.Futures.Invariant.{IsSilent}
use Rattle.hek_laws.proofs.Futures.PullBack.{is_among-append}

pub record AsTold (h : History) (u : ℕ) (x : Txn) : Type 0 where
  pub settled : has_committed h u ≡ true → is_settled x.state ≡ true
  pub told : x.state ≡ state.Committed → has_committed h u ≡ true
  pub undrawn : x.state ≡ state.Active → end_of u h ≡ None
  pub drawn : (is_preparing x.state || has_committed h u) ≡ true → end_of u h ≡ Some x.end
  pub unbegun : x.state ≡ state.NotBegun → IsSilent u h

silent-end : (t : ℕ) (h : History) → IsSilent t h → end_of t h ≡ None
silent-end t [] s = refl
silent-end t (p ∷ ps) s = ap (λ o. option_or o (end_of t ps)) (one p.0 p.1 s.0) ∙ silent-end t ps s.1
  where
    one : (e : Event) (r : Reply) → (is_of t e ≡ true → is_refusal r ≡ true) → end_drawn t e r ≡ None
    one (event.Precommit x) (reply.Precommitted time) q = cond-false (x == t) (Some time) None (false_from_ne_true (x == t) (λ y. false≢true (q y)))
    one (event.Precommit x) r q = refl
    one e r q = refl

pub silent-append : (t : ℕ) (h : History) (e : Event) (r : Reply) → IsSilent t h → (is_of t e ≡ true → is_refusal r ≡ true) → IsSilent t (h ++ (e, r) ∷ [])
silent-append t [] e r s q = (q, tt)
silent-append t (p ∷ ps) e r s q = (s.0, silent-append t ps e r s.1 q)

pub end_of-more : (u : ℕ) (h : History) (e : Event) (r : Reply) → end_drawn u e r ≡ None → end_of u (h ++ (e, r) ∷ []) ≡ end_of u h
end_of-more u h e r d = end_of-append u h ((e, r) ∷ []) ∙ ap (λ o. option_or (end_of u h) (option_or o None)) d ∙ option_or-none (end_of u h)

pub committed-more : (h : History) (e : Event) (r : Reply) (u : ℕ) → committed_by e r ≡ [] → has_committed (h ++ (e, r) ∷ []) u ≡ has_committed h u
committed-more h e r u c = ap (λ xs. is_among xs u) (committed_in-append h ((e, r) ∷ []) ∙ ap (λ xs. committed_in h ++ (xs ++ [])) c ∙ append-nil (committed_in h))

-- the transaction u draws and commits nothing by the event, and keeps its state
keeps : (h : History) (e : Event) (r : Reply) (u : ℕ) (x y : Txn) → committed_by e r ≡ [] → end_drawn u e r ≡ None → (y.state ≡ state.NotBegun → is_of u e ≡ true → is_refusal r ≡ true) → y.state ≡ x.state → y.end ≡ x.end → AsTold h u x → AsTold (h ++ (e, r) ∷ []) u y
keeps h e r u x y c d n s m k = record {
  settled = λ q. ap is_settled s ∙ k.settled (sym (committed-more h e r u c) ∙ q);
  told = λ q. committed-more h e r u c ∙ k.told (sym s ∙ q);
  undrawn = λ q. end_of-more u h e r d ∙ k.undrawn (sym s ∙ q);
  drawn = λ q. end_of-more u h e r d ∙ k.drawn (ap (λ z. is_preparing z || has_committed h u) (sym s) ∙ ap (λ b. is_preparing y.state || b) (sym (committed-more h e r u c)) ∙ q) ∙ ap Some (sym m);
  unbegun = λ q. silent-append u h e r (k.unbegun (sym s ∙ q)) (n q);
}

-- the transaction u leaves a state in which it had not committed for one in which it never will
lost : (h : History) (e : Event) (r : Reply) (u : ℕ) (x y : Txn) → committed_by e r ≡ [] → end_drawn u e r ≡ None → is_settled x.state ≡ false → is_preparing y.state ≡ false → (y.state ≡ state.Committed → ⊥) → (y.state ≡ state.NotBegun → ⊥) →
    (y.state ≡ state.Active → end_of u h ≡ None) → AsTold h u x → AsTold (h ++ (e, r) ∷ []) u y
lost h e r u x y c d s p n b a k =
    let out : has_committed (h ++ (e, r) ∷ []) u ≡ true → ⊥ = λ q. false≢true (sym s ∙ k.settled (sym (committed-more h e r u c) ∙ q)) in
    record {
      settled = λ q. absurd (out q);
      told = λ q. absurd (n q);
      undrawn = λ q. end_of-more u h e r d ∙ a q;
      drawn = λ q. absurd (⊎_elim (λ z. false≢true (sym p ∙ z)) out (or_cases _ _ q));
      unbegun = λ q. absurd (b q);
    }

live-unsettled : (x : State) → is_live x ≡ true → is_settled x ≡ false
live-unsettled state.Active l = refl
live-unsettled state.Preparing l = refl
live-unsettled state.NotBegun l = cc
live-unsettled state.Committed l = cc
live-unsettled (state.Aborted c) l = cc
live-unsettled state.Terminated l = cc

module _ (w : World) (h : History) (k : (u : ℕ) → AsTold h u (txn_in w.txns u)) where
  abbrev After : Event → Outcome → Type 0
  After e o = (u : ℕ) → AsTold (h ++ (e, o.reply) ∷ []) u (txn_in o.world.txns u)

  -- an event of a transaction that has begun, which draws and commits nothing
  plain : (new : World) (e : Event) (r : Reply) (t : ℕ) → new.txns ≡ w.txns → committed_by e r ≡ [] → ((u : ℕ) → end_drawn u e r ≡ None) → ((u : ℕ) → is_of u e ≡ true → u ≡ t) → ((txn_in w.txns t).state ≡ state.NotBegun → ⊥) → (u : ℕ) → AsTold (h ++ (e, r) ∷ []) u (txn_in new.txns u)
  plain new e r t s c d by n u =
      keeps h e r u (txn_in w.txns u) (txn_in new.txns u) c (d u) (λ q i. absurd (n (ap (λ m. (txn_in w.txns m).state) (sym (by u i)) ∙ ap (λ ts. (txn_in ts u).state) (sym s) ∙ q))) (ap (λ ts. (txn_in ts u).state) s) (ap (λ ts. (txn_in ts u).end) s) (k u)

  begun : (t : ℕ) (s : State) → (txn_in w.txns t).state ≡ s → (s ≡ state.NotBegun → ⊥) → (txn_in w.txns t).state ≡ state.NotBegun → ⊥
  begun t s e n q = n (sym e ∙ q)

  walks : (e : Event) (r : Reply) (t : ℕ) (es : List Effect) (done : Bool) → IsActive w t done → committed_by e r ≡ [] → ((u : ℕ) → end_drawn u e r ≡ None) → ((u : ℕ) → is_of u e ≡ true → u ≡ t) → (u : ℕ) → AsTold (h ++ (e, r) ∷ []) u (txn_in (apply_all t w es).txns u)
  walks e r t es done a c d by = plain (apply_all t w es) e r t (apply_all-times t w es).txns c d by (begun t state.Active a.state (λ q. cc))

  past-begun : (t : ℕ) (f : State → Bool) → f (txn_in w.txns t).state ≡ true → f state.NotBegun ≡ false → (txn_in w.txns t).state ≡ state.NotBegun → ⊥
  past-begun t f y n q = false≢true (sym n ∙ ap f (sym q) ∙ y)

  -- the transactions other than the one that is set
  apart : (t : ℕ) (y : Txn) (P : ℕ → Txn → Type 0) → ((u : ℕ) → (u ≡ t → ⊥) → P u (txn_in w.txns u)) → P t y → declared w.txns t ≡ true → (u : ℕ) → P u (txn_in (set_txn w.txns t y) u)
  apart t y P others own known u =
      ⊎_elim (λ e. subst (λ n. P n (txn_in (set_txn w.txns t y) n)) (sym (eqb-true u t e)) (subst (P t) (sym (txn_in-set_same w.txns t y known)) own))
      (λ e. let ne : u ≡ t → ⊥ = λ q. false≢true (sym e ∙ eq-eqb u t q) in
      ⊎_elim (λ p. absurd (ne p.0)) (λ p. subst (P u) (sym p) (others u ne)) (txn_in-set w.txns t u y)) (cases_Bool (u == t))

  commit-told : (t : ℕ) → IsPreparing w t → (u : ℕ) → AsTold (h ++ (event.Commit t, reply.Committed) ∷ []) u (txn_in (commit w t).txns u)
  commit-told t p u =
      let among : (n : ℕ) → has_committed (h ++ (event.Commit t, reply.Committed) ∷ []) n ≡ (has_committed h n || ((t == n) || false)) =
      λ n. ap (λ xs. is_among xs n) (committed_in-append h ((event.Commit t, reply.Committed) ∷ [])) ∙ is_among-append (committed_in h) (t ∷ []) n in
      apart t (record (txn_in w.txns t) { state = state.Committed }) (AsTold (h ++ (event.Commit t, reply.Committed) ∷ []))
      (λ n ne.
      let same : has_committed (h ++ (event.Commit t, reply.Committed) ∷ []) n ≡ has_committed h n = among n ∙ ap (λ b. has_committed h n || (b || false)) (ne_eqb t n (λ q. ne (sym q))) ∙ or-false (has_committed h n) in
      let o = k n in record {
        settled = λ q. o.settled (sym same ∙ q);
        told = λ q. same ∙ o.told q;
        undrawn = λ q. end_of-more n h (event.Commit t) reply.Committed refl ∙ o.undrawn q;
        drawn = λ q. end_of-more n h (event.Commit t) reply.Committed refl ∙ o.drawn (ap (λ b. is_preparing (txn_in w.txns n).state || b) (sym same) ∙ q);
        unbegun = λ q. silent-append n h (event.Commit t) reply.Committed (o.unbegun q) (λ i. absurd (ne (sym (eqb-true t n i))));
      })
      (record {
        settled = λ q. refl;
        told = λ q. among t ∙ or_right (has_committed h t) _ (or_left _ _ (eq-eqb t t refl));
        undrawn = λ q. cc;
        drawn = λ q. end_of-more t h (event.Commit t) reply.Committed refl ∙ (k t).drawn (or_left _ _ (ap is_preparing p.state));
        unbegun = λ q. cc;
      }) p.known u
    where
      or-false : (b : Bool) → (b || false) ≡ b
      or-false true = refl
      or-false false = refl

  prepare-told : (t : ℕ) → IsActive w t true → (u : ℕ) → AsTold (h ++ (event.Precommit t, reply.Precommitted w.clock) ∷ []) u (txn_in (prepare w t).txns u)
  prepare-told t a u =
      let same = λ (n : ℕ). committed-more h (event.Precommit t) (reply.Precommitted w.clock) n refl in
      apart t (record (txn_in w.txns t) { state = state.Preparing; end = w.clock }) (AsTold (h ++ (event.Precommit t, reply.Precommitted w.clock) ∷ []))
      (λ n ne. keeps h (event.Precommit t) (reply.Precommitted w.clock) n (txn_in w.txns n) (txn_in w.txns n) refl (cond-false (t == n) (Some w.clock) None (ne_eqb t n (λ q. ne (sym q)))) (λ q i. absurd (ne (sym (eqb-true t n i)))) refl refl (k n))
      (record {
        settled = λ q. absurd (false≢true (sym (ap is_settled a.state) ∙ (k t).settled (sym (same t) ∙ q)));
        told = λ q. cc;
        undrawn = λ q. cc;
        drawn = λ q. end_of-append t h ((event.Precommit t, reply.Precommitted w.clock) ∷ []) ∙ ap (λ o. option_or o (option_or (end_drawn t (event.Precommit t) (reply.Precommitted w.clock)) None)) ((k t).undrawn a.state)
            ∙ ap (λ o. option_or o None) (cond-true (t == t) (Some w.clock) None (eq-eqb t t refl));
        unbegun = λ q. cc;
      }) a.known u

  each_told : EachChange w After
  each_told = record {
    same = λ e r i m u. keeps h e r u (txn_in w.txns u) (txn_in w.txns u) i.commits (i.draws u) (λ q o. m.begun u o q) refl refl (k u);
    aborts = λ e r t cause i l m u. aborted e r t cause i l m u;
    begins = λ t p _ u. apart t (record (txn_in w.txns t) { state = state.Active; begin = w.clock }) (AsTold (h ++ (event.Begin t, reply.Began w.clock) ∷ []))
        (λ n ne. keeps h (event.Begin t) (reply.Began w.clock) n (txn_in w.txns n) (txn_in w.txns n) refl refl (λ q i. absurd (ne (sym (eqb-true t n i)))) refl refl (k n))
        (lost h (event.Begin t) (reply.Began w.clock) t (txn_in w.txns t) _ refl refl (ap is_settled p.state) refl (λ q. cc) (λ q. cc) (λ q. silent-end t h ((k t).unbegun p.state)) (k t)) p.known u;
    reads = λ t key es a _. walks (event.Read t key) _ t es false a refl (λ u. refl) (λ u q. sym (eqb-true t u q));
    scans = λ t b es a _. walks (event.Scan t b) _ t es false a refl (λ u. refl) (λ u q. sym (eqb-true t u q));
    exists = λ t key value v es a _ _. walks (event.Insert t key value) _ t es false a refl (λ u. refl) (λ u q. sym (eqb-true t u q));
    inserts = λ t key value es a _ _ _. walks (event.Insert t key value) _ t es false a refl (λ u. refl) (λ u q. sym (eqb-true t u q));
    misses_update = λ t key value es a _ _. walks (event.Update t key value) _ t es false a refl (λ u. refl) (λ u q. sym (eqb-true t u q));
    updates = λ t key value v es a _ _. walks (event.Update t key value) _ t es false a refl (λ u. refl) (λ u q. sym (eqb-true t u q));
    misses_delete = λ t key es a _ _. walks (event.Delete t key) _ t es false a refl (λ u. refl) (λ u q. sym (eqb-true t u q));
    deletes = λ t key v es a _ _. walks (event.Delete t key) _ t es false a refl (λ u. refl) (λ u q. sym (eqb-true t u q));
    finishes = λ t a u. apart t (record (txn_in w.txns t) { no_more_waits = true }) (AsTold (h ++ (event.Finish t, reply.Ready) ∷ []))
        (λ n ne. keeps h (event.Finish t) reply.Ready n (txn_in w.txns n) (txn_in w.txns n) refl refl (λ q i. absurd (ne (sym (eqb-true t n i)))) refl refl (k n))
        (keeps h (event.Finish t) reply.Ready t (txn_in w.txns t) _ refl refl (λ q i. let z : state.NotBegun ≡ state.Active = sym q ∙ a.state in cc) refl refl (k t)) a.known u;
    prepares = λ t a _ _. prepare-told t a;
    drops = λ t v r p i _. plain w (event.Release t) r t refl i.commits i.draws (λ u q. sym (eqb-true t u q)) (past-begun t is_past p.past refl);
    unlocks = λ t b p. plain w (event.Release t) _ t refl refl (λ u. refl) (λ u q. sym (eqb-true t u q)) (past-begun t is_past p.past refl);
    frees = λ t u p. plain w (event.Release t) _ t refl refl (λ u. refl) (λ u q. sym (eqb-true t u q)) (past-begun t is_past p.past refl);
    commits = λ t p _. commit-told t p;
    stamps_begin = λ t v es p _. plain w (event.Stamp t) _ t refl refl (λ u. refl) (λ u q. sym (eqb-true t u q)) (begun t state.Committed p.state (λ q. cc));
    stamps_end = λ t v es p _. plain w (event.Stamp t) _ t refl refl (λ u. refl) (λ u q. sym (eqb-true t u q)) (begun t state.Committed p.state (λ q. cc));
    voids = λ t v es cause p _. plain w (event.Stamp t) _ t refl refl (λ u. refl) (λ u q. sym (eqb-true t u q)) (begun t (state.Aborted cause) p.state (λ q. cc));
    gives_back = λ t v es cause r p _ i _. plain w (event.Stamp t) r t refl i.commits i.draws (λ u q. sym (eqb-true t u q)) (begun t (state.Aborted cause) p.state (λ q. cc));
    ends = λ t p _ u. apart t (record (txn_in w.txns t) { state = state.Terminated }) (AsTold (h ++ (event.End t, reply.Over) ∷ []))
        (λ n ne. keeps h (event.End t) reply.Over n (txn_in w.txns n) (txn_in w.txns n) refl refl (λ q i. absurd (ne (sym (eqb-true t n i)))) refl refl (k n))
        (record {
          settled = λ q. refl;
          told = λ q. cc;
          undrawn = λ q. cc;
          drawn = λ q. end_of-more t h (event.End t) reply.Over refl ∙ (k t).drawn (or_right _ _ (sym (committed-more h (event.End t) reply.Over t refl) ∙ q));
          unbegun = λ q. cc;
        }) p.known u;
  }
    where
      aborted : (e : Event) (r : Reply) (t : ℕ) (cause : _) → IsIdle e r → IsLive w t → IsMute (abort w t cause) e r → (u : ℕ) → AsTold (h ++ (e, r) ∷ []) u (txn_in (abort w t cause).txns u)
      aborted e r t cause i l m u =
          let y = record (txn_in w.txns t) { state = state.Aborted cause } in
          let new = abort w t cause in
          ⊎_elim
          (λ same.
          let is : (txn_in new.txns u).state ≡ state.Aborted cause =
          each_txn-doom (λ n x. n ≡ t → x.state ≡ state.Aborted cause) (set_txn w.txns t y) (seconds_of w.dependents t) (λ n x f. f)
          (λ n q. subst (λ j. (txn_in (set_txn w.txns t y) j).state ≡ state.Aborted cause) (sym q) (ap (λ (x : Txn). x.state) (txn_in-set_same w.txns t y l.known))) u (eqb-true u t same) in
          let live : is_live (txn_in w.txns u).state ≡ true = subst (λ j. is_live (txn_in w.txns j).state ≡ true) (sym (eqb-true u t same)) l.live in
          lost h e r u (txn_in w.txns u) (txn_in new.txns u) i.commits (i.draws u) (live-unsettled _ live) (ap is_preparing is) (λ q. let z : state.Aborted cause ≡ state.Committed = sym is ∙ q in cc) (λ q. let z : state.Aborted cause ≡ state.NotBegun = sym is ∙ q in cc) (λ q. let z : state.Aborted cause ≡ state.Active = sym is ∙ q in cc) (k u))
          (λ other.
          let is : (txn_in new.txns u).state ≡ (txn_in w.txns u).state =
          each_txn-doom (λ n x. (n == t) ≡ false → x.state ≡ (txn_in w.txns n).state) (set_txn w.txns t y) (seconds_of w.dependents t) (λ n x f. f)
          (λ n q. ⊎_elim (λ p. absurd (false≢true (sym q ∙ eq-eqb n t p.0))) (λ p. ap (λ (x : Txn). x.state) p) (txn_in-set w.txns t n y)) u other in
          keeps h e r u (txn_in w.txns u) (txn_in new.txns u) i.commits (i.draws u) (λ q o. m.begun u o q) is (end-abort w t cause u) (k u))
          (cases_Bool (u == t))

pub told-next : (w : World) (h : History) (e : Event) → ((u : ℕ) → AsTold h u (txn_in w.txns u)) → (u : ℕ) → AsTold (h ++ (e, reply_to w e) ∷ []) u (txn_in (next w e).txns u)
told-next w h e k = each_outcome w (λ e o. (u : ℕ) → AsTold (h ++ (e, o.reply) ∷ []) u (txn_in o.world.txns u)) (each_told w h k) e
