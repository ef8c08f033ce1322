-- Writers of one key: where a snapshot transaction writes a key, no other writer of it ends between its begin and its end.
use Rattle.std.proofs.Common.{◌≡◌, ℕ, zero, suc, ◌<◌, Bool, true, false, List, [], ◌∷◌, ◌++◌, Some, None, refl, ◌∙◌, ap, sym, arith, inl, inr, ⊎_elim, subst}
use Rattle.std.proofs.lemmas.Bool.{cases_Bool, cond-true, cond-false, false≢true, lt-ltb, eqb-true, eq-eqb, ne_eqb, or_cases, and_parts}
use Rattle.std.specs.Prelude.{not, ◌==◌, ◌&&◌, ◌⊎◌, nat_lt, is_some, slice_get}
use Rattle.hek_rules.specs.declared.event.Level.TheVariants.{Snapshot}
use Rattle.hek_rules.specs.declared.event.State.{State}
use Rattle.hek_rules.specs.declared.event.State.TheVariants as state
use Rattle.hek_rules.specs.declared.event.Event.{Event}
use Rattle.hek_rules.specs.declared.reply.Reply.{Reply}
use Rattle.hek_rules.specs.declared.word.BeginRecord.{BeginRecord}
use Rattle.hek_rules.specs.declared.word.BeginRecord.TheVariants.{At, By}
use Rattle.hek_rules.specs.Words.{infinity}
use Rattle.hek_rules.specs.World.{World, Txn, Ender, EndedAt, Held, txn_in, version_in, is_aborted, is_preparing, is_not_begun, is_made_by, is_held_by}
use Rattle.hek_rules.specs.Waits.{waits}
use Rattle.hek_rules.specs.Table.{prepare}
use Rattle.hek_rules.specs.Serial.{writes_of}
use Rattle.hek_laws.proofs.Lists.Overlay.{wrote}
use Rattle.hek_laws.proofs.Table.SetTxns.{txn_in-set_same, txn_in-set_other}
use Rattle.hek_laws.proofs.Table.Cases.{IsActive}
use Rattle.hek_laws.proofs.Worlds.AsTold.{AsTold}
use Rattle.hek_laws.proofs.Worlds.Fixed.{Fixed}
use Rattle.hek_laws.proofs.Futures.Living.{with_one, made_in, kept_in}
use Rattle.hek_laws.proofs.Futures.Stood.{ended_by, made_then, kept_then, stood_at, stood-range}
use Rattle.hek_laws.proofs.Futures.Matches.{lives_at}
use Rattle.hek_laws.proofs.Futures.FoundValues.{in_range}
use Rattle.hek_laws.proofs.Futures.Survivors.{History, is_drawn, is_settled, Future, Viable, Goes}
use Rattle.hek_laws.proofs.Futures.Invariant.{Kept, Structure, InFuture, order_in}
use Rattle.hek_laws.proofs.Futures.Parts.{writes-more, cases_same}
use Rattle.hek_laws.proofs.Futures.Quiet.{viable-before}
use Rattle.hek_laws.proofs.Futures.Bystanders.{active-out}
use Rattle.hek_laws.proofs.Futures.Prepares.{NotListed, prepared, writes_of-prepared, lives-less, viable, other}
use Rattle.hek_laws.proofs.Futures.Carried.{Calm}
use Rattle.hek_history_runs.proofs.Past.{stood_in, IsMaker, MakersStay, stood-lives, same-end, past-stood, past-key, maker-range, maker-ends}

-- what a writer x of a key leaves: a version of the key that it made, or one that stood until its end
pub record Trace (w : World) (A : ℕ → Bool) (x key : ℕ) : Type 0 where
  pub place : ℕ
  pub key_is : (version_in w.versions place).key ≡ key
  pub left : IsMaker w.txns x (version_in w.versions place).creator ⊎ ((time : ℕ) × (suc time ≡ (txn_in w.txns x).end) × (stood_in w A time place ≡ true))

-- the writers of keys in a future
pub record Writers (w : World) (h : History) (A : ℕ → Bool) : Type 0 where
  -- each writer of a key that has drawn its end time left a trace
  pub traces : (x key : ℕ) → A x ≡ true → wrote (writes_of x h) key ≡ true → Trace w A x key
  -- the version of the key that lives did not stand before a writer of the key ended
  pub newest : (x key v time : ℕ) → A x ≡ true → wrote (writes_of x h) key ≡ true → (version_in w.versions v).key ≡ key → lives_at w.versions A v ≡ true → time < (txn_in w.txns x).end → stood_in w A time v ≡ false
  -- no writer of a key that a snapshot transaction writes ends after the begin of that transaction while that can still commit
  pub opened : (t x key : ℕ) → Viable w A t → (txn_in w.txns t).level ≡ Snapshot → A x ≡ true → wrote (writes_of t h) key ≡ true → wrote (writes_of x h) key ≡ true → (txn_in w.txns t).begin < (txn_in w.txns x).end → ⊥
  -- nor between its begin and its end
  pub closed : (t x key : ℕ) → A t ≡ true → (txn_in w.txns t).level ≡ Snapshot → A x ≡ true → wrote (writes_of t h) key ≡ true → wrote (writes_of x h) key ≡ true →
      (txn_in w.txns t).begin < (txn_in w.txns x).end → (txn_in w.txns x).end < (txn_in w.txns t).end → ⊥

preparing-begun : (x : State) → is_preparing x ≡ true → is_not_begun x ≡ false
preparing-begun state.Preparing y = refl
preparing-begun x y = cc

settled-begun : (x : State) → is_settled x ≡ true → is_not_begun x ≡ false
settled-begun state.Committed y = refl
settled-begun state.Terminated y = refl
settled-begun x y = cc

preparing-live : (x : State) → is_preparing x ≡ true → is_aborted x ≡ false
preparing-live state.Preparing y = refl
preparing-live x y = cc

settled-live : (x : State) → is_settled x ≡ true → is_aborted x ≡ false
settled-live state.Committed y = refl
settled-live state.Terminated y = refl
settled-live x y = cc

pub drawn-begun : (w : World) (h : History) (s : Structure w h) (u : ℕ) → is_drawn w h u ≡ true → is_not_begun (txn_in w.txns u).state ≡ false
drawn-begun w h s u d = ⊎_elim (preparing-begun (txn_in w.txns u).state) (λ c. settled-begun (txn_in w.txns u).state (s.settled.settled u c)) (or_cases _ _ d)

pub drawn-live : (w : World) (h : History) (s : Structure w h) (u : ℕ) → is_drawn w h u ≡ true → is_aborted (txn_in w.txns u).state ≡ false
drawn-live w h s u d = ⊎_elim (preparing-live (txn_in w.txns u).state) (λ c. settled-live (txn_in w.txns u).state (s.settled.settled u c)) (or_cases _ _ d)

pub end-early : (w : World) (h : History) (s : Structure w h) (u : ℕ) → (txn_in w.txns u).end < infinity
end-early w h s u = let below = s.times.ends_below u in let b = s.bounded in omega (arith, below, b)

-- ---- an event at which no transaction of the future draws its end time
module _ (w : World) (h : History) (new : World) (e : Event) (r : Reply) (s : Structure w h) (c : Calm w h new e r) (told : (u : ℕ) → AsTold (h ++ (e, r) ∷ []) u (txn_in new.txns u)) (fixed : Fixed w new)
    (g : Goes w h new (h ++ (e, r) ∷ [])) (A : ℕ → Bool) (f : Future w h A) (fn : Future new (h ++ (e, r) ∷ []) A)
    (back : (u key : ℕ) → (txn_in new.txns u).state ≡ state.Active → wrote (writes_of u (h ++ (e, r) ∷ [])) key ≡ true → (txn_in w.txns u).state ≡ state.Active) (makers : MakersStay w new.versions) (living : (v : ℕ) → lives_at new.versions A v ≡ lives_at w.versions A v)
    (old : Writers w h A) where
  abbrev later : History
  later = h ++ (e, r) ∷ []

  -- a member of the future writes nothing by the event
  wrote-back : (x key : ℕ) → A x ≡ true → wrote (writes_of x later) key ≡ true → wrote (writes_of x h) key ≡ true
  wrote-back x key a y =
      ap (λ ws. wrote ws key) (sym (writes-more x h e r (c.writes x (λ active. false≢true (sym (active-out w h A x s.settled f active) ∙ a))))) ∙ y

  end-is : (x : ℕ) → A x ≡ true → (txn_in new.txns x).end ≡ (txn_in w.txns x).end
  end-is = same-end w h new e r s c told A f fn

  begin-is : (t : ℕ) → is_not_begun (txn_in w.txns t).state ≡ false → (txn_in new.txns t).begin ≡ (txn_in w.txns t).begin
  begin-is = c.begin

  early : (x : ℕ) → A x ≡ true → (time : ℕ) → time < (txn_in new.txns x).end → time < infinity
  early x a time l = let below = end-early w h s x in let same = end-is x a in omega (arith, l, below, same)

  pub calm-traces : (x key : ℕ) → A x ≡ true → wrote (writes_of x later) key ≡ true → Trace new A x key
  calm-traces x key a y = move (old.traces x key a (wrote-back x key a y))
    where
      there : (p : Trace w A x key) → is_some (slice_get w.versions p.place) ≡ true
      there p =
          ⊎_elim (λ m. maker-range w.versions w.txns x p.place (end-early w h s x) m)
          (λ q. stood-range w.versions q.0 (ended_by w.txns q.0 A) p.place (lt-ltb q.0 infinity (let l = end-early w h s x in let n = q.1 in omega (arith, l, n))) q.2) p.left

      move : Trace w A x key → Trace new A x key
      move p = record {
        place = p.place;
        key_is = past-key w h new e r s c told A f fn p.place (there p) ∙ p.key_is;
        left =
            ⊎_elim
            (λ m. inl (maker-ends w.txns new.txns x (version_in new.versions p.place).creator (end-is x a) (makers p.place x (drawn-live w h s x (f.drawn x a)) (end-early w h s x) m)))
            (λ q. inr (q.0, q.1 ∙ sym (end-is x a), past-stood w h new e r s c told A f fn q.0 (let l = end-early w h s x in let n = q.1 in omega (arith, l, n)) p.place ∙ q.2)) p.left;
      }

  pub calm-newest : (x key v time : ℕ) → A x ≡ true → wrote (writes_of x later) key ≡ true → (version_in new.versions v).key ≡ key → lives_at new.versions A v ≡ true → time < (txn_in new.txns x).end → stood_in new A time v ≡ false
  calm-newest x key v time a y at l less =
      let was : lives_at w.versions A v ≡ true = sym (living v) ∙ l in
      let there = in_range w.versions A v was in
      past-stood w h new e r s c told A f fn time (early x a time less) v
      ∙ old.newest x key v time a (wrote-back x key a y) (sym (past-key w h new e r s c told A f fn v there) ∙ at) was (let same = end-is x a in omega (arith, less, same))

  pub calm-closed : (t x key : ℕ) → A t ≡ true → (txn_in new.txns t).level ≡ Snapshot → A x ≡ true → wrote (writes_of t later) key ≡ true → wrote (writes_of x later) key ≡ true →
      (txn_in new.txns t).begin < (txn_in new.txns x).end → (txn_in new.txns x).end < (txn_in new.txns t).end → ⊥
  calm-closed t x key a l b y z less more =
      let bt = begin-is t (drawn-begun w h s t (f.drawn t a)) in
      let et = end-is t a in
      let ex = end-is x b in
      old.closed t x key a (sym (fixed.level t) ∙ l) b (wrote-back t key a y) (wrote-back x key b z) (omega (arith, less, bt, ex)) (omega (arith, more, et, ex))

  -- the writers after the event, if a transaction that writes a key by the event, at snapshot, began after all others that wrote it ended
  pub calm-writers : ((t x key : ℕ) → Viable new A t → (txn_in w.txns t).level ≡ Snapshot → A x ≡ true → wrote (writes_of t h) key ≡ false → wrote (writes_of t later) key ≡ true → wrote (writes_of x h) key ≡ true →
      (txn_in w.txns t).begin < (txn_in w.txns x).end → ⊥) → Writers new later A
  calm-writers own = record {
    traces = calm-traces;
    newest = calm-newest;
    closed = calm-closed;
    opened = λ t x key v l a y z less.
        (let vt = viable-before w h new later A g fn t (λ q. back t key q y) v in
        let lt : (txn_in w.txns t).level ≡ Snapshot = sym (fixed.level t) ∙ l in
        let bt = begin-is t (ap is_not_begun vt.active) in
        let ex = end-is x a in
        let before : (txn_in w.txns t).begin < (txn_in w.txns x).end = omega (arith, less, bt, ex) in
        let zx = wrote-back x key a z in
        ⊎_elim (λ yes. old.opened t x key vt lt a yes zx before) (λ no. own t x key v lt a no y zx before) (cases_Bool (wrote (writes_of t h) key)));
  }

-- ---- a transaction draws its end time, in a future that contains it
maker-made : (ts : List Txn) (x : ℕ) (c : BeginRecord) → is_made_by x c ≡ true → IsMaker ts x c
maker-made ts x (At time) y = absurd (false≢true y)
maker-made ts x (By u) y = eqb-true u x y

held-ended : (A : ℕ → Bool) (x : ℕ) (e : Ender) → is_held_by x e ≡ true → kept_in (with_one A x) e ≡ false
held-ended A x (EndedAt time) y = refl
held-ended A x (Held None b) y = absurd (false≢true y)
held-ended A x (Held (Some u) b) y = ap not (cond-true (u == x) true (A u) y)

module _ (rows : List (ℕ × ℕ)) (w : World) (h : History) (k : Kept rows w h) (x : ℕ) (a : IsActive w x true) (z : waits w x ≡ 0)
    (B : ℕ → Bool) (f : Future w h B) (vx : Viable w B x) (unlisted : NotListed x (order_in h)) (old : Writers w h B) where
  abbrev since : History
  since = prepared x w.clock h

  abbrev new : World
  new = prepare w x

  s : Structure w h
  s = k.structure

  i : InFuture w h rows B
  i = k.each B f

  end-now : (txn_in new.txns x).end ≡ w.clock
  end-now = ap (λ (y : Txn). y.end) (txn_in-set_same w.txns x _ a.known)

  others-same : (u : ℕ) → (u ≡ x → ⊥) → txn_in new.txns u ≡ txn_in w.txns u
  others-same u n = txn_in-set_other w.txns x u _ n

  level-same : (u : ℕ) → (txn_in new.txns u).level ≡ (txn_in w.txns u).level
  level-same u = ⊎_elim (λ q. subst (λ n. (txn_in new.txns n).level ≡ (txn_in w.txns n).level) (sym q) (ap (λ (y : Txn). y.level) (txn_in-set_same w.txns x _ a.known))) (λ n. ap (λ (y : Txn). y.level) (others-same u n)) (cases_same u x)

  begin-same : (u : ℕ) → (txn_in new.txns u).begin ≡ (txn_in w.txns u).begin
  begin-same u = ⊎_elim (λ q. subst (λ n. (txn_in new.txns n).begin ≡ (txn_in w.txns n).begin) (sym q) (ap (λ (y : Txn). y.begin) (txn_in-set_same w.txns x _ a.known))) (λ n. ap (λ (y : Txn). y.begin) (others-same u n)) (cases_same u x)

  out : B x ≡ false
  out = active-out w h B x s.settled f a.state

  -- another member was one before
  member : (u : ℕ) → with_one B x u ≡ true → (u ≡ x → ⊥) → B u ≡ true
  member u m n = sym (cond-false (u == x) true (B u) (ne_eqb u x n)) ∙ m

  wrote-was : (u key : ℕ) → wrote (writes_of u since) key ≡ true → wrote (writes_of u h) key ≡ true
  wrote-was u key y = ap (λ ws. wrote ws key) (sym (writes_of-prepared x w.clock u h)) ∙ y

  -- the members that had ended by a past time
  ended-same : (time : ℕ) → time < w.clock → (u : ℕ) → ended_by new.txns time (with_one B x) u ≡ ended_by w.txns time B u
  ended-same time l u =
      ⊎_elim
      (λ q. subst (λ n. ended_by new.txns time (with_one B x) n ≡ ended_by w.txns time B n) (sym q)
      (ap (λ b. b && not (nat_lt time (txn_in new.txns x).end)) (cond-true (x == x) true (B x) (eq-eqb x x refl)) ∙ ap (λ n. not (nat_lt time n)) end-now ∙ ap not (lt-ltb time w.clock l)
      ∙ sym (ap (λ b. b && not (nat_lt time (txn_in w.txns x).end)) out)))
      (λ n. ap (λ b. b && not (nat_lt time (txn_in new.txns u).end)) (cond-false (u == x) true (B u) (ne_eqb u x n)) ∙ ap (λ (y : Txn). B u && not (nat_lt time y.end)) (others-same u n)) (cases_same u x)

  stood-same : (time : ℕ) → time < w.clock → (v : ℕ) → stood_in new (with_one B x) time v ≡ stood_in w B time v
  stood-same time l v = ap (λ E. stood_at w.versions time E v) (λ j u. ended-same time l u j)

  -- a version that x made did not stand before
  fresh-unstood : (time v : ℕ) → time < w.clock → is_made_by x (version_in w.versions v).creator ≡ true → stood_in new (with_one B x) time v ≡ false
  fresh-unstood time v l y = by (version_in w.versions v).creator y
    where
      by : (c : BeginRecord) → is_made_by x c ≡ true → (made_then time (ended_by new.txns time (with_one B x)) c && kept_then time (ended_by new.txns time (with_one B x)) (version_in w.versions v).ender) ≡ false
      by (At begin) y = absurd (false≢true y)
      by (By u) y =
          let none : ended_by new.txns time (with_one B x) u ≡ false = ap (λ n. ended_by new.txns time (with_one B x) n) (eqb-true u x y) ∙ ended-same time l x ∙ ap (λ b. b && not (nat_lt time (txn_in w.txns x).end)) out in
          ap (λ b. b && kept_then time (ended_by new.txns time (with_one B x)) (version_in w.versions v).ender) none

  before-clock : (time : ℕ) × (suc time ≡ w.clock)
  before-clock = by w.clock s.times.started
    where
      by : (n : ℕ) → 0 < n → (time : ℕ) × (suc time ≡ n)
      by zero l = absurd (omega (arith, l))
      by (suc n) l = (n, refl)

  trace-x : (key : ℕ) → wrote (writes_of x h) key ≡ true → Trace new (with_one B x) x key
  trace-x key y =
      let p = i.shows x key vx y in
      record {
        place = p.0;
        key_is = p.1;
        left =
            ⊎_elim (λ made. inl (maker-made new.txns x (version_in w.versions p.0).creator made))
            (λ q.
            let time = before-clock in
            let l : time.0 < w.clock = (let n = time.1 in omega (arith, n)) in
            inr (time.0, time.1 ∙ sym end-now, stood-same time.0 l p.0 ∙ stood-lives w h s B time.0 (let n = time.1 in omega (arith, n)) (let b = s.bounded in omega (arith, l, b)) p.0 ∙ q.0)) p.2;
      }

  trace-other : (u key : ℕ) → B u ≡ true → (u ≡ x → ⊥) → Trace w B u key → Trace new (with_one B x) u key
  trace-other u key m n p =
      let same = ap (λ (y : Txn). y.end) (others-same u n) in
      record {
        place = p.place;
        key_is = p.key_is;
        left = ⊎_elim (λ q. inl (maker-ends w.txns new.txns u (version_in w.versions p.place).creator same q))
            (λ q. let below = s.times.ends_below u in inr (q.0, q.1 ∙ sym same, stood-same q.0 (let e = q.1 in omega (arith, e, below)) p.place ∙ q.2)) p.left;
      }

  joined-newest : (u key v time : ℕ) → with_one B x u ≡ true → wrote (writes_of u h) key ≡ true → (version_in w.versions v).key ≡ key → lives_at w.versions (with_one B x) v ≡ true → time < (txn_in new.txns u).end → stood_in new (with_one B x) time v ≡ false
  joined-newest u key v time m y at l less =
      ⊎_elim
      (λ q.
      let e : (txn_in new.txns u).end ≡ w.clock = ap (λ n. (txn_in new.txns n).end) q ∙ end-now in
      let past : time < w.clock = omega (arith, less, e) in
      ⊎_elim (λ made. fresh-unstood time v past made)
      (λ no.
      let was : lives_at w.versions B v ≡ true = lives-less x B (version_in w.versions v).creator (version_in w.versions v).ender no l in
      let held = i.ended x key v vx (subst (λ n. wrote (writes_of n h) key ≡ true) q y) at was in
      absurd (false≢true (sym (held-ended B x (version_in w.versions v).ender held) ∙ (and_parts (made_in (with_one B x) (version_in w.versions v).creator) (kept_in (with_one B x) (version_in w.versions v).ender) l).1)))
      (cases_Bool (is_made_by x (version_in w.versions v).creator)))
      (λ n.
      let e : (txn_in new.txns u).end ≡ (txn_in w.txns u).end = ap (λ (y : Txn). y.end) (others-same u n) in
      let below = s.times.ends_below u in
      let past : time < w.clock = omega (arith, less, e, below) in
      ⊎_elim (λ made. fresh-unstood time v past made)
      (λ no. stood-same time past v ∙ old.newest u key v time (member u m n) y at (lives-less x B (version_in w.versions v).creator (version_in w.versions v).ender no l) (omega (arith, less, e)))
      (cases_Bool (is_made_by x (version_in w.versions v).creator)))
      (cases_same u x)

  pub joined-writers : Writers new since (with_one B x)
  joined-writers = record {
    traces = λ u key m y.
        ⊎_elim (λ q. subst (λ n. Trace new (with_one B x) n key) (sym q) (trace-x key (subst (λ n. wrote (writes_of n h) key ≡ true) q (wrote-was u key y))))
        (λ n. trace-other u key (member u m n) n (old.traces u key (member u m n) (wrote-was u key y))) (cases_same u x);
    newest = λ u key v time m y at l less. joined-newest u key v time m (wrote-was u key y) at l less;
    opened = λ t u key v l m y b less.
        (let vt = viable rows w h k x a z B f vx unlisted t v in
        let ne = other rows w h k x a z B f vx unlisted t v in
        ⊎_elim (λ q. ne (i.one_writer t x key vt vx (wrote-was t key y) (subst (λ n. wrote (writes_of n h) key ≡ true) q (wrote-was u key b))))
        (λ n.
        let bt = begin-same t in
        let eu = ap (λ (y : Txn). y.end) (others-same u n) in
        old.opened t u key vt (sym (level-same t) ∙ l) (member u m n) (wrote-was t key y) (wrote-was u key b) (omega (arith, less, bt, eu))) (cases_same u x));
    closed = λ t u key mt l m y b less more.
        (let bt = begin-same t in
        ⊎_elim
        (λ q.
        let et : (txn_in new.txns t).end ≡ w.clock = ap (λ n. (txn_in new.txns n).end) q ∙ end-now in
        ⊎_elim (λ p. let eu : (txn_in new.txns u).end ≡ w.clock = ap (λ n. (txn_in new.txns n).end) p ∙ end-now in omega (arith, more, et, eu))
        (λ n.
        let eu = ap (λ (y : Txn). y.end) (others-same u n) in
        let first : (txn_in w.txns t).begin < (txn_in w.txns u).end = omega (arith, less, bt, eu) in
        old.opened x u key vx (ap (λ n. (txn_in w.txns n).level) (sym q) ∙ sym (level-same t) ∙ l) (member u m n) (subst (λ n. wrote (writes_of n h) key ≡ true) q (wrote-was t key y)) (wrote-was u key b)
        (subst (λ n. (txn_in w.txns n).begin < (txn_in w.txns u).end) q first)) (cases_same u x))
        (λ n.
        let et = ap (λ (y : Txn). y.end) (others-same t n) in
        ⊎_elim (λ p. let eu : (txn_in new.txns u).end ≡ w.clock = ap (λ n. (txn_in new.txns n).end) p ∙ end-now in let below = s.times.ends_below t in omega (arith, more, et, eu, below))
        (λ p. let eu = ap (λ (y : Txn). y.end) (others-same u p) in
        old.closed t u key (member t mt n) (sym (level-same t) ∙ l) (member u m p) (wrote-was t key y) (wrote-was u key b) (omega (arith, less, bt, eu)) (omega (arith, more, et, eu))) (cases_same u x)) (cases_same t x));
  }
