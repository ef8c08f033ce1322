-- Every event keeps what is known of the writers of keys, in each future, and so every run has it.
use Rattle.std.proofs.Common.{◌≡◌, ℕ, ◌<◌, Bool, true, false, List, [], ◌∷◌, ◌++◌, append_assoc, refl, ◌∙◌, ap, sym, inl, ⊎_elim, subst}
use Rattle.std.proofs.lemmas.Bool.{cases_Bool, cond-true, cond-false, false≢true, eqb-true, eq-eqb, or_cases, or_left, or_right, and_parts, and_from, false_from_ne_true}
use Rattle.std.specs.Prelude.{◌==◌, ◌&&◌, ◌||◌, ◌⊎◌}
use Rattle.hek_rules.specs.declared.event.Level.TheVariants.{Snapshot}
use Rattle.hek_rules.specs.declared.event.State.{State}
use Rattle.hek_rules.specs.declared.event.State.TheVariants as state
use Rattle.hek_rules.specs.declared.event.Event.{Event}
use Rattle.hek_rules.specs.declared.event.Event.TheVariants as event
use Rattle.hek_rules.specs.declared.event.Effect.{Effect}
use Rattle.hek_rules.specs.declared.reply.Reply.{Reply}
use Rattle.hek_rules.specs.declared.reply.Reply.TheVariants as reply
use Rattle.hek_rules.specs.declared.serial.Write.{Write}
use Rattle.hek_rules.specs.declared.serial.Write.TheVariants.{Put, Remove}
use Rattle.hek_rules.specs.World.{World, Txn, txn_in, is_preparing}
use Rattle.hek_rules.specs.Locks.{add_version}
use Rattle.hek_rules.specs.Waits.{waits}
use Rattle.hek_rules.specs.Walk.{ToRead, apply_all}
use Rattle.hek_rules.specs.Table.{Outcome, begin, finish, commit, end, abort, prepare, drop_read}
use Rattle.hek_rules.specs.Serial.{write_of, writes_of}
use Rattle.hek_rules.specs.Run.{next, run, transcript, reply as reply_to}
use Rattle.hek_laws.specs.Rows.{AreRising, key_of}
use Rattle.hek_laws.proofs.Lists.Overlay.{wrote}
use Rattle.hek_laws.proofs.Table.SetTxns.{txn_in-set_other, each_txn-set}
use Rattle.hek_laws.proofs.Table.Unchanged.{apply_all-times}
use Rattle.hek_laws.proofs.Table.Cases.{IsIn, IsActive}
use Rattle.hek_laws.proofs.Table.Changes.{EachChange, each_outcome}
use Rattle.hek_laws.proofs.Worlds.AsTold.{AsTold}
use Rattle.hek_laws.proofs.Worlds.Fixed.{Fixed, fixed-next}
use Rattle.hek_laws.proofs.Worlds.Histories.{writes_of-append, append-nil}
use Rattle.hek_laws.proofs.Futures.Living.{with_one}
use Rattle.hek_laws.proofs.Futures.Matches.{lives_at}
use Rattle.hek_laws.proofs.Futures.Survivors.{History, has_committed, is_drawn, is_settled, Future, Viable, Goes, before, Future-before}
use Rattle.hek_laws.proofs.Futures.PullBack.{each_goes}
use Rattle.hek_laws.proofs.Futures.Invariant.{Kept, Structure}
use Rattle.hek_laws.proofs.Futures.Acted.{unlisted}
use Rattle.hek_laws.proofs.Futures.Parts.{writes-more, cases_same}
use Rattle.hek_laws.proofs.Futures.Quiet.{TxnsBack, txns-same, txns-set, txns-abort, future-same, viable-before}
use Rattle.hek_laws.proofs.Futures.Written.{wrote-append}
use Rattle.hek_laws.proofs.Futures.Updates.{write-other, write-own}
use Rattle.hek_laws.proofs.Futures.EachEvent.{silent-writes}
use Rattle.hek_laws.proofs.Futures.Carried.{Calm, calm-next}
use Rattle.hek_laws.proofs.Runs.Whole.{Whole, kept, whole-next}
use Rattle.hek_history_runs.proofs.Past.{MakersStay, makers-stay, past-lives}
use Rattle.hek_history_runs.proofs.Winners.{Writers, calm-writers, joined-writers}
use Rattle.hek_history_runs.proofs.FreshWrites.{insert-fresh, target-fresh}

-- what is known of an event, besides what it changes
pub record Known (w : World) (h : History) (new : World) (e : Event) (r : Reply) : Type 0 where
  pub calm : Calm w h new e r
  pub goes : Goes w h new (h ++ (e, r) ∷ [])
  pub fixed : Fixed w new
  pub told : (u : ℕ) → AsTold (h ++ (e, r) ∷ []) u (txn_in new.txns u)
  pub structure : Structure new (h ++ (e, r) ∷ [])
  pub makers : MakersStay w new.versions

active-not-preparing : (x : State) → x ≡ state.Active → is_preparing x ≡ true → ⊥
active-not-preparing x a p = false≢true (sym (ap is_preparing a) ∙ p)

pub settled-not-preparing : (x : State) → is_settled x ≡ true → is_preparing x ≡ true → ⊥
settled-not-preparing state.Preparing s p = false≢true s
settled-not-preparing state.Committed s p = false≢true p
settled-not-preparing state.Terminated s p = false≢true p
settled-not-preparing state.NotBegun s p = false≢true p
settled-not-preparing state.Active s p = false≢true p
settled-not-preparing (state.Aborted cause) s p = false≢true p

module _ (rows : List (ℕ × ℕ)) (w : World) (h : History) (k : Kept rows w h) (old : (A : ℕ → Bool) → Future w h A → Writers w h A) where
  s : Structure w h
  s = k.structure

  abbrev Goal : Event → Outcome → Type 0
  Goal e o = Known w h o.world e o.reply → (A : ℕ → Bool) → Future o.world (h ++ (e, o.reply) ∷ []) A → Writers o.world (h ++ (e, o.reply) ∷ []) A

  -- what a transaction that writes a key by the event for the first time owes
  abbrev Owed : World → Event → Reply → Type 0
  Owed new e r =
      (A : ℕ → Bool) → Future w h A → (t x key : ℕ) → Viable w A t → Viable new A t → (txn_in w.txns t).level ≡ Snapshot → A x ≡ true → wrote (writes_of t h) key ≡ false → wrote (writes_of t (h ++ (e, r) ∷ [])) key ≡ true → wrote (writes_of x h) key ≡ true →
      (txn_in w.txns t).begin < (txn_in w.txns x).end → ⊥

  -- an event at which no transaction draws an end time
  quiet : (new : World) (e : Event) (r : Reply) → TxnsBack w new → (new.clock ≡ w.clock) ⊎ (new.versions ≡ w.versions) → Owed new e r → Goal e (record { reply = r; world = new })
  quiet new e r b same owed kn A fn =
      let later : History = h ++ (e, r) ∷ [] in
      let committed : (u : ℕ) → has_committed later u ≡ true → is_drawn w h u ≡ true =
      λ u y. ⊎_elim (λ d. d) (λ q. absurd (settled-not-preparing (txn_in new.txns u).state ((kn.told u).settled y) q.2)) (kn.calm.drawn u (or_right (is_preparing (txn_in new.txns u).state) (has_committed later u) y)) in
      let f : Future w h A = future-same w h new later A kn.goes s.dependences b.preparing committed fn in
      let living : (v : ℕ) → lives_at new.versions A v ≡ lives_at w.versions A v =
      λ v. ⊎_elim (λ q. past-lives w h new e r s kn.calm kn.told A f fn kn.structure q v) (λ q. ap (λ vs. lives_at vs A v) q) same in
      calm-writers w h new e r s kn.calm kn.told kn.fixed kn.goes A f fn (λ u key q y. b.active u q) kn.makers living (old A f)
      (λ t x key v l a no y z less. owed A f t x key (viable-before w h new later A kn.goes fn t (b.active t) v) v l a no y z less)

  -- an event by which no transaction writes
  nothing-owed : (new : World) (e : Event) (r : Reply) → ((u : ℕ) → write_of u e r ≡ []) → Owed new e r
  nothing-owed new e r n A f t x key v vn l a unwritten y z less = false≢true (sym unwritten ∙ ap (λ ws. wrote ws key) (sym (writes-more t h e r (n t))) ∙ y)

  -- a write of one transaction
  write-owed : (new : World) (e : Event) (r : Reply) (t : ℕ) (wr : Write) → write_of t e r ≡ wr ∷ [] → ((u : ℕ) → (t ≡ u → ⊥) → write_of u e r ≡ []) →
      ((A : ℕ → Bool) → Future w h A → Viable w A t → Viable new A t → (txn_in w.txns t).level ≡ Snapshot → wrote (writes_of t h) (key_of wr) ≡ false → (x : ℕ) → A x ≡ true → wrote (writes_of x h) (key_of wr) ≡ true →
      (txn_in w.txns t).begin < (txn_in w.txns x).end → ⊥) → Owed new e r
  write-owed new e r t wr own others fresh A f u x key v vn l a unwritten y z less =
      ⊎_elim
      (λ q. subst (λ n. Viable w A n → Viable new A n → (txn_in w.txns n).level ≡ Snapshot → wrote (writes_of n h) key ≡ false → wrote (writes_of n (h ++ (e, r) ∷ [])) key ≡ true → (txn_in w.txns n).begin < (txn_in w.txns x).end → ⊥) q mine v vn l unwritten y less)
      (λ ne. false≢true (sym unwritten ∙ ap (λ ws. wrote ws key) (sym (writes-more u h e r (others u ne))) ∙ y)) (cases_same t u)
    where
      mine : Viable w A t → Viable new A t → (txn_in w.txns t).level ≡ Snapshot → wrote (writes_of t h) key ≡ false → wrote (writes_of t (h ++ (e, r) ∷ [])) key ≡ true → (txn_in w.txns t).begin < (txn_in w.txns x).end → ⊥
      mine v vn l unwritten y less =
          let all : writes_of t (h ++ (e, r) ∷ []) ≡ writes_of t h ++ wr ∷ [] = writes_of-append t h ((e, r) ∷ []) ∙ ap (λ ws. writes_of t h ++ (ws ++ [])) own in
          let both : (wrote (writes_of t h) key || (key_of wr == key || false)) ≡ true = sym (wrote-append (writes_of t h) (wr ∷ []) key) ∙ ap (λ ws. wrote ws key) (sym all) ∙ y in
          ⊎_elim (λ q. false≢true (sym unwritten ∙ q))
          (λ q. ⊎_elim
          (λ here. let same : key_of wr ≡ key = eqb-true (key_of wr) key here in
          fresh A f v vn l (subst (λ n. wrote (writes_of t h) n ≡ false) (sym same) unwritten) x a (subst (λ n. wrote (writes_of x h) n ≡ true) (sym same) z) less)
          (λ none. false≢true none) (or_cases (key_of wr == key) false q))
          (or_cases (wrote (writes_of t h) key) (key_of wr == key || false) both)

  walked : (t : ℕ) (es : List Effect) → (apply_all t w es).clock ≡ w.clock
  walked t es = (apply_all-times t w es).clock

  walked-back : (t : ℕ) (es : List Effect) (new : World) → new.txns ≡ (apply_all t w es).txns → TxnsBack w new
  walked-back t es new is = txns-same w new (is ∙ (apply_all-times t w es).txns)

  -- a transaction draws its end time
  prepare-goal : (x : ℕ) → IsActive w x true → waits w x ≡ 0 → Goal (event.Precommit x) (record { reply = reply.Precommitted w.clock; world = prepare w x })
  prepare-goal x a z kn A fn =
      ⊎_elim
      (λ yes.
      let same : with_one B x ≡ A = λ j u. (⊎_elim (λ e. cond-true (u == x) true (B u) e ∙ sym yes ∙ ap A (sym (eqb-true u x e))) (λ e. cond-false (u == x) true (B u) e ∙ elsewhere u (λ q. false≢true (sym e ∙ eq-eqb u x q))) (cases_Bool (u == x))) j in
      let vx : Viable w B x = record {
        active = a.state;
        hopeful = a.hopeful;
        depends = λ u c. and_from (A u) (is_drawn w h u) (fn.closed u x c yes) (or_left _ _ (s.dependences.first u x c));
      } in
      subst (Writers new later) same (joined-writers rows w h k x a z B f vx (unlisted x h (s.undrawn x a.state)) (old B f)))
      (λ no.
      let same : B ≡ A = λ j u. (⊎_elim (λ e. ap B (eqb-true u x e) ∙ bx ∙ sym no ∙ ap A (sym (eqb-true u x e))) (λ e. elsewhere u (λ q. false≢true (sym e ∙ eq-eqb u x q))) (cases_Bool (u == x))) j in
      let fa : Future w h A = subst (Future w h) same f in
      calm-writers w h new (event.Precommit x) (reply.Precommitted w.clock) s kn.calm kn.told kn.fixed kn.goes A fa fn (λ u key q y. active-back u q) kn.makers (λ v. refl) (old A fa)
      (λ t u key v l m no y b less. false≢true (sym no ∙ ap (λ ws. wrote ws key) (sym (writes-more t h (event.Precommit x) (reply.Precommitted w.clock) refl)) ∙ y)))
      (cases_Bool (A x))
    where
      new : World
      new = prepare w x

      later : History
      later = h ++ (event.Precommit x, reply.Precommitted w.clock) ∷ []

      B : ℕ → Bool
      B = before w h A

      f : Future w h B
      f = Future-before w h new later A kn.goes s.dependences fn

      active-back : (u : ℕ) → (txn_in new.txns u).state ≡ state.Active → (txn_in w.txns u).state ≡ state.Active
      active-back u = each_txn-set (λ n y. y.state ≡ state.Active → (txn_in w.txns n).state ≡ state.Active) w.txns x (record (txn_in w.txns x) { state = state.Preparing; end = w.clock }) (λ n q. q) (λ q. let m : state.Preparing ≡ state.Active = q in cc) u

      bx : B x ≡ false
      bx = false_from_ne_true (B x) (λ y.
          ⊎_elim (λ p. active-not-preparing (txn_in w.txns x).state a.state p)
          (λ c. false≢true (sym (ap is_settled a.state) ∙ s.settled.settled x c)) (or_cases _ _ (and_parts (A x) (is_drawn w h x) y).1))

      kept_member : (p q : Bool) → (p ≡ true → q ≡ true) → (p && q) ≡ p
      kept_member true q m = m refl
      kept_member false q m = refl

      elsewhere : (u : ℕ) → (u ≡ x → ⊥) → B u ≡ A u
      elsewhere u ne = kept_member (A u) (is_drawn w h u) (λ y.
          ⊎_elim (λ d. d)
          (λ q. let same : txn_in new.txns u ≡ txn_in w.txns u = txn_in-set_other w.txns x u _ ne in
          absurd (active-not-preparing (txn_in w.txns u).state q.0 (ap (λ (y : Txn). is_preparing y.state) (sym same) ∙ q.2)))
          (kn.calm.drawn u (fn.drawn u y)))

  -- a transaction that begins has written nothing
  begin-goal : (t : ℕ) → IsIn w t state.NotBegun → Goal (event.Begin t) (record { reply = reply.Began w.clock; world = begin w t })
  begin-goal t p kn A fn =
      calm-writers w h new (event.Begin t) (reply.Began w.clock) s kn.calm kn.told kn.fixed kn.goes A f fn back kn.makers (λ v. refl) (old A f)
      (λ u x key v l m no y b less. false≢true (sym no ∙ wrote-was u key y))
    where
      new : World
      new = begin w t

      later : History
      later = h ++ (event.Begin t, reply.Began w.clock) ∷ []

      preparing : (u : ℕ) → is_preparing (txn_in new.txns u).state ≡ true → is_preparing (txn_in w.txns u).state ≡ true
      preparing u = each_txn-set (λ n y. is_preparing y.state ≡ true → is_preparing (txn_in w.txns n).state ≡ true) w.txns t (record (txn_in w.txns t) { state = state.Active; begin = w.clock }) (λ n q. q) (λ q. absurd (false≢true q)) u

      committed : (u : ℕ) → has_committed later u ≡ true → is_drawn w h u ≡ true
      committed u y = ⊎_elim (λ d. d) (λ q. absurd (settled-not-preparing (txn_in new.txns u).state ((kn.told u).settled y) q.2)) (kn.calm.drawn u (or_right (is_preparing (txn_in new.txns u).state) (has_committed later u) y))

      f : Future w h A
      f = future-same w h new later A kn.goes s.dependences preparing committed fn

      wrote-was : (u key : ℕ) → wrote (writes_of u later) key ≡ true → wrote (writes_of u h) key ≡ true
      wrote-was u key y = ap (λ ws. wrote ws key) (sym (writes-more u h (event.Begin t) (reply.Began w.clock) refl)) ∙ y

      back : (u key : ℕ) → (txn_in new.txns u).state ≡ state.Active → wrote (writes_of u later) key ≡ true → (txn_in w.txns u).state ≡ state.Active
      back u key q y =
          ⊎_elim
          (λ e. absurd (false≢true (ap (λ ws. wrote ws key) (sym (silent-writes t h (s.unbegun t p.state))) ∙ subst (λ n. wrote (writes_of n h) key ≡ true) (sym e) (wrote-was u key y))))
          (λ ne. ap (λ (z : Txn). z.state) (sym (txn_in-set_other w.txns t u _ (λ e. ne (sym e)))) ∙ q) (cases_same t u)

  each_goal : EachChange w Goal
  each_goal = record {
    same = λ e r i m. quiet w e r (txns-same w w refl) (inl refl) (nothing-owed w e r i.writes);
    aborts = λ e r t cause i l m. quiet (abort w t cause) e r (txns-abort w t cause) (inl refl) (nothing-owed (abort w t cause) e r i.writes);
    begins = λ t p c. begin-goal t p;
    reads = λ t key es a ok. quiet (apply_all t w es) (event.Read t key) _ (walked-back t es (apply_all t w es) refl) (inl (walked t es)) (nothing-owed (apply_all t w es) (event.Read t key) _ (λ u. refl));
    scans = λ t bucket es a ok. quiet (apply_all t w es) (event.Scan t bucket) _ (walked-back t es (apply_all t w es) refl) (inl (walked t es)) (nothing-owed (apply_all t w es) (event.Scan t bucket) _ (λ u. refl));
    exists = λ t key value v es a ok is. quiet (apply_all t w es) (event.Insert t key value) reply.Exists (walked-back t es (apply_all t w es) refl) (inl (walked t es)) (nothing-owed (apply_all t w es) (event.Insert t key value) reply.Exists (λ u. refl));
    inserts = λ t key value es a ok is free. quiet (add_version (apply_all t w es) t key value) (event.Insert t key value) reply.Done (walked-back t es (add_version (apply_all t w es) t key value) refl) (inl (walked t es))
        (write-owed (add_version (apply_all t w es) t key value) (event.Insert t key value) reply.Done t (Put key value) (write-own t (Put key value)) (λ u n. write-other t u (Put key value) n)
        (λ A f v vn l no x a y less. insert-fresh rows w h k t key ToRead es ok A f v vn.depends l (old A f) no is free x a y less));
    misses_update = λ t key value es a ok is. quiet (apply_all t w es) (event.Update t key value) reply.Absent (walked-back t es (apply_all t w es) refl) (inl (walked t es)) (nothing-owed (apply_all t w es) (event.Update t key value) reply.Absent (λ u. refl));
    updates = λ t key value z es a ok is. quiet (add_version (apply_all t w es) t key value) (event.Update t key value) reply.Done (walked-back t es (add_version (apply_all t w es) t key value) refl) (inl (walked t es))
        (write-owed (add_version (apply_all t w es) t key value) (event.Update t key value) reply.Done t (Put key value) (write-own t (Put key value)) (λ u n. write-other t u (Put key value) n)
        (λ A f v vn l no x a y less. target-fresh rows w h k t key es ok A f v vn.depends l (old A f) no z is x a y less));
    misses_delete = λ t key es a ok is. quiet (apply_all t w es) (event.Delete t key) reply.Absent (walked-back t es (apply_all t w es) refl) (inl (walked t es)) (nothing-owed (apply_all t w es) (event.Delete t key) reply.Absent (λ u. refl));
    deletes = λ t key z es a ok is. quiet (apply_all t w es) (event.Delete t key) reply.Done (walked-back t es (apply_all t w es) refl) (inl (walked t es))
        (write-owed (apply_all t w es) (event.Delete t key) reply.Done t (Remove key) (write-own t (Remove key)) (λ u n. write-other t u (Remove key) n)
        (λ A f v vn l no x a y less. target-fresh rows w h k t key es ok A f v vn.depends l (old A f) no z is x a y less));
    finishes = λ t a. quiet (finish w t) (event.Finish t) reply.Ready (txns-set w (finish w t) t (record (txn_in w.txns t) { no_more_waits = true }) refl refl (λ q. q) (λ q. q)) (inl refl) (nothing-owed (finish w t) (event.Finish t) reply.Ready (λ u. refl));
    prepares = λ t a z c. prepare-goal t a z;
    drops = λ t v r p i n. quiet (drop_read w t v) (event.Release t) r (txns-same w (drop_read w t v) refl) (inl refl) (nothing-owed (drop_read w t v) (event.Release t) r i.writes);
    unlocks = λ t b p. quiet _ (event.Release t) (reply.ReleasedBucket b) (txns-same w _ refl) (inl refl) (nothing-owed _ (event.Release t) (reply.ReleasedBucket b) (λ u. refl));
    frees = λ t u p. quiet _ (event.Release t) (reply.ReleasedWaiter u) (txns-same w _ refl) (inl refl) (nothing-owed _ (event.Release t) (reply.ReleasedWaiter u) (λ u. refl));
    commits = λ t p z. quiet (commit w t) (event.Commit t) reply.Committed (txns-set w (commit w t) t (record (txn_in w.txns t) { state = state.Committed }) refl refl (λ q. let m : state.Committed ≡ state.Active = q in cc) (λ q. absurd (false≢true q))) (inl refl) (nothing-owed (commit w t) (event.Commit t) reply.Committed (λ u. refl));
    stamps_begin = λ t v es p is. quiet _ (event.Stamp t) (reply.StampedBegin v) (txns-same w _ refl) (inl refl) (nothing-owed _ (event.Stamp t) (reply.StampedBegin v) (λ u. refl));
    stamps_end = λ t v es p is. quiet _ (event.Stamp t) (reply.StampedEnd v) (txns-same w _ refl) (inl refl) (nothing-owed _ (event.Stamp t) (reply.StampedEnd v) (λ u. refl));
    voids = λ t v es cause p is. quiet _ (event.Stamp t) (reply.StampedBegin v) (txns-same w _ refl) (inl refl) (nothing-owed _ (event.Stamp t) (reply.StampedBegin v) (λ u. refl));
    gives_back = λ t v es cause r p is i n. quiet _ (event.Stamp t) r (txns-same w _ refl) (inl refl) (nothing-owed _ (event.Stamp t) r i.writes);
    ends = λ t p z. quiet (end w t) (event.End t) reply.Over (txns-set w (end w t) t (record (txn_in w.txns t) { state = state.Terminated }) refl refl (λ q. let m : state.Terminated ≡ state.Active = q in cc) (λ q. absurd (false≢true q))) (inl refl) (nothing-owed (end w t) (event.End t) reply.Over (λ u. refl));
  }

pub known-next : (rows : List (ℕ × ℕ)) (up : AreRising rows) (w : World) (h : History) (e : Event) → Whole rows w h → Known w h (next w e) e (reply_to w e)
known-next rows up w h e whole =
    let s = (kept rows w h whole).structure in
    let new = whole-next rows up w h e whole in
    record {
      calm = calm-next w h s e;
      goes = each_outcome w (λ e o. Goes w h o.world (h ++ (e, o.reply) ∷ [])) (each_goes w h s.dependences s.settled) e;
      fixed = fixed-next w e;
      told = new.told;
      structure = (kept rows (next w e) (h ++ (e, reply_to w e) ∷ []) new).structure;
      makers = makers-stay w h s e;
    }

pub writers-next : (rows : List (ℕ × ℕ)) (up : AreRising rows) (w : World) (h : History) (e : Event) → Whole rows w h → ((A : ℕ → Bool) → Future w h A → Writers w h A) →
    (A : ℕ → Bool) → Future (next w e) (h ++ (e, reply_to w e) ∷ []) A → Writers (next w e) (h ++ (e, reply_to w e) ∷ []) A
writers-next rows up w h e whole old =
    let k = kept rows w h whole in
    each_outcome w (Goal rows w h k old) (each_goal rows w h k old) e (known-next rows up w h e whole)

pub writers-run : (rows : List (ℕ × ℕ)) (up : AreRising rows) (w : World) (h : History) (es : List Event) → Whole rows w h → ((A : ℕ → Bool) → Future w h A → Writers w h A) →
    (A : ℕ → Bool) → Future (run w es) (h ++ transcript w es) A → Writers (run w es) (h ++ transcript w es) A
writers-run rows up w h [] whole old = subst (λ g. (A : ℕ → Bool) → Future w g A → Writers w g A) (sym (append-nil h)) old
writers-run rows up w h (e ∷ es) whole old =
    subst (λ g. (A : ℕ → Bool) → Future (run (next w e) es) g A → Writers (run (next w e) es) g A) (append_assoc h ((e, reply_to w e) ∷ []) (transcript (next w e) es))
    (writers-run rows up (next w e) (h ++ (e, reply_to w e) ∷ []) es (whole-next rows up w h e whole) (writers-next rows up w h e whole old))
