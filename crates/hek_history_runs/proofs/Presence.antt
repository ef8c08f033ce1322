-- Where an update or a delete was answered done, the key is there at the end, under the transaction's own earlier writes.
use Rattle.std.proofs.Common.{◌≡◌, ℕ, zero, suc, Bool, true, false, List, [], ◌∷◌, ◌++◌, append_assoc, Some, refl, ◌∙◌, ap, sym, arith, ⊎_elim, subst, take}
use Rattle.std.proofs.lemmas.Bool.{cases_Bool, cond-true, cond-false, false≢true, lt-ltb, eqb-true, eq-eqb, or_cases, or_left, or_right, and_parts, and_from, false_from_ne_true}
use Rattle.std.specs.Prelude.{◌==◌, ◌&&◌, nat_lt, filter, is_some, slice_get}
use Rattle.std.specs.Option.{option_or}
use Rattle.hek_rules.specs.declared.event.Level.TheVariants.{Repeatable}
use Rattle.hek_rules.specs.declared.event.State.TheVariants as state
use Rattle.hek_rules.specs.declared.event.Event.{Event}
use Rattle.hek_rules.specs.declared.event.Event.TheVariants as event
use Rattle.hek_rules.specs.declared.event.Effect.{Effect}
use Rattle.hek_rules.specs.declared.reply.Reply.{Reply}
use Rattle.hek_rules.specs.declared.reply.Reply.TheVariants as reply
use Rattle.hek_rules.specs.declared.serial.Write.{Write}
use Rattle.hek_rules.specs.declared.serial.Write.TheVariants.{Put, Remove}
use Rattle.hek_rules.specs.Listing.{has, value_of}
use Rattle.hek_rules.specs.World.{World, Txn, txn_in, bucket_of, is_preparing}
use Rattle.hek_rules.specs.Locks.{add_version}
use Rattle.hek_rules.specs.Waits.{waits}
use Rattle.hek_rules.specs.Walk.{Allow, ToWrite, walk, last, seen_of, of_key, apply_all}
use Rattle.hek_rules.specs.Table.{Outcome, begin, finish, commit, end, abort, prepare, drop_read}
use Rattle.hek_rules.specs.Serial.{lay_all, write_of, writes_of, laid_over, is_of, end_of}
use Rattle.hek_rules.specs.Run.{next, run, transcript, reply as reply_to}
use Rattle.hek_laws.specs.Rows.{AreRising, key_of}
use Rattle.hek_laws.proofs.Lists.Overlay.{wrote, lay_all-other, lay_all-same}
use Rattle.hek_laws.proofs.Walks.Looks.{repeatable-now}
use Rattle.hek_laws.proofs.Table.SetTxns.{txn_in-set_other, each_txn-set}
use Rattle.hek_laws.proofs.Table.Unchanged.{apply_all-times}
use Rattle.hek_laws.proofs.Table.Cases.{IsIn, IsActive}
use Rattle.hek_laws.proofs.Table.Changes.{EachChange, each_outcome, is_refusal, is_answer}
use Rattle.hek_laws.proofs.Worlds.Histories.{end_of-append, append-nil, lay_all-append}
use Rattle.hek_laws.proofs.Futures.Living.{with_one}
use Rattle.hek_laws.proofs.Futures.Survivors.{History, has_committed, is_drawn, is_settled, Future, Viable, before, Future-before}
use Rattle.hek_laws.proofs.Futures.Invariant.{Kept, Structure, IsSilent, AllBelow, drawn_by, order_in, future_rows}
use Rattle.hek_laws.proofs.Futures.Acted.{unlisted}
use Rattle.hek_laws.proofs.Futures.Parts.{cases_same, future_rows-more}
use Rattle.hek_laws.proofs.Futures.Prepares.{NotListed, prepared, laid_over-prepared, order_in-append, viable, other, rows_now}
use Rattle.hek_laws.proofs.Futures.Precommits.{filter-out}
use Rattle.hek_laws.proofs.Futures.Quiet.{TxnsBack, txns-same, txns-set, txns-abort, future-same, viable-before, idle-draws}
use Rattle.hek_laws.proofs.Futures.Bystanders.{active-out}
use Rattle.hek_laws.proofs.Futures.WalkReplies.{found-some}
use Rattle.hek_laws.proofs.Futures.AsOfBegin.{rows_until, same-rows, back-member}
use Rattle.hek_laws.proofs.Runs.Whole.{Whole, kept, whole-next}
use Rattle.hek_history_runs.proofs.Kept.{Known, settled-not-preparing, known-next}

-- a reply `done` to an update or a delete found the key
abbrev pub IsThere : List (ℕ × ℕ) → Event → Reply → Type 0
IsThere rows (event.Update t key value) reply.Done = is_some (value_of rows key) ≡ true
IsThere rows (event.Delete t key) reply.Done = is_some (value_of rows key) ≡ true
IsThere rows e r = Unit {0}

abbrev pub AreThere : ℕ → List (ℕ × ℕ) → History → Type 0
AreThere t rows [] = Unit {0}
AreThere t rows (p ∷ ps) = (is_of t p.0 ≡ true → IsThere rows p.0 p.1) × AreThere t (lay_all (write_of t p.0 p.1) rows) ps

-- ---- one more entry, and other rows
there-more : (t : ℕ) (rows : List (ℕ × ℕ)) (h : History) (e : Event) (r : Reply) → AreThere t rows h → (is_of t e ≡ true → IsThere (lay_all (writes_of t h) rows) e r) → AreThere t rows (h ++ (e, r) ∷ [])
there-more t rows [] e r a n = (n, tt)
there-more t rows (p ∷ ps) e r a n = (
  a.0,
  there-more t (lay_all (write_of t p.0 p.1) rows) ps e r a.1 (λ m. subst (λ rs. IsThere rs e r) (lay_all-append (write_of t p.0 p.1) (writes_of t ps) rows) (n m)),
)

there-same : (t : ℕ) (rows others : List (ℕ × ℕ)) (h : History) → ((key : ℕ) → wrote (writes_of t h) key ≡ true → value_of rows key ≡ value_of others key) → AreThere t rows h → AreThere t others h
there-same t rows others [] g a = tt
there-same t rows others (p ∷ ps) g a = (
  λ m. one p.0 p.1 m (λ key y. g key (first-wrote (write_of t p.0 p.1) (writes_of t ps) key y)) (a.0 m),
  there-same t (lay_all (write_of t p.0 p.1) rows) (lay_all (write_of t p.0 p.1) others) ps (λ key y. lay_all-same (write_of t p.0 p.1) rows others key (g key (last-wrote (write_of t p.0 p.1) (writes_of t ps) key y))) a.1,
)
  where
    first-wrote : (xs ys : List Write) (key : ℕ) → wrote xs key ≡ true → wrote (xs ++ ys) key ≡ true
    first-wrote [] ys key y = absurd (false≢true y)
    first-wrote (x ∷ xs) ys key y = ⊎_elim (λ here. or_left (key_of x == key) (wrote (xs ++ ys) key) here) (λ rest. or_right (key_of x == key) (wrote (xs ++ ys) key) (first-wrote xs ys key rest)) (or_cases (key_of x == key) (wrote xs key) y)

    last-wrote : (xs ys : List Write) (key : ℕ) → wrote ys key ≡ true → wrote (xs ++ ys) key ≡ true
    last-wrote [] ys key y = y
    last-wrote (x ∷ xs) ys key y = or_right (key_of x == key) (wrote (xs ++ ys) key) (last-wrote xs ys key y)

    one : (e : Event) (r : Reply) → is_of t e ≡ true → ((key : ℕ) → wrote (write_of t e r) key ≡ true → value_of rows key ≡ value_of others key) → IsThere rows e r → IsThere others e r
    one (event.Update x key value) reply.Done m g i =
        ap is_some (sym (g key (ap (λ ws. wrote ws key) (cond-true (x == t) (Put key value ∷ []) [] m) ∙ or_left (key == key) false (eq-eqb key key refl)))) ∙ i
    one (event.Delete x key) reply.Done m g i =
        ap is_some (sym (g key (ap (λ ws. wrote ws key) (cond-true (x == t) (Remove key ∷ []) [] m) ∙ or_left (key == key) false (eq-eqb key key refl)))) ∙ i
    one e r m g i = tt

there-silent : (t : ℕ) (rows : List (ℕ × ℕ)) (h : History) → IsSilent t h → AreThere t rows h
there-silent t rows [] s = tt
there-silent t rows (p ∷ ps) s = (λ m. refused p.0 p.1 (s.0 m), there-silent t (lay_all (write_of t p.0 p.1) rows) ps s.1)
  where
    refused : (e : Event) (r : Reply) → is_refusal r ≡ true → IsThere rows e r
    refused (event.Update x key value) reply.Done y = absurd (false≢true y)
    refused (event.Delete x key) reply.Done y = absurd (false≢true y)
    refused e r y = tt

-- a reply by which the transaction writes nothing
there-unwritten : (t : ℕ) (rows : List (ℕ × ℕ)) (e : Event) (r : Reply) → is_of t e ≡ true → write_of t e r ≡ [] → IsThere rows e r
there-unwritten t rows (event.Update x key value) reply.Done m n = let z : Put key value ∷ [] ≡ [] = sym (cond-true (x == t) (Put key value ∷ []) [] m) ∙ n in cc
there-unwritten t rows (event.Delete x key) reply.Done m n = let z : Remove key ∷ [] ≡ [] = sym (cond-true (x == t) (Remove key ∷ []) [] m) ∙ n in cc
there-unwritten t rows e r m n = tt

unanswered-there : (rows : List (ℕ × ℕ)) (e : Event) (r : Reply) → is_answer r ≡ false → IsThere rows e r
unanswered-there rows (event.Update x key value) reply.Done y = absurd (false≢true (sym y))
unanswered-there rows (event.Delete x key) reply.Done y = absurd (false≢true (sym y))
unanswered-there rows e r y = tt

all-below : (time : ℕ) (xs : List (ℕ × ℕ)) → AllBelow time xs → filter (λ (x : ℕ × ℕ). nat_lt x.0 time) xs ≡ xs
all-below time [] b = refl
all-below time (x ∷ xs) b = cond-true (nat_lt x.0 time) (x ∷ filter (λ (y : ℕ × ℕ). nat_lt y.0 time) xs) (filter (λ (y : ℕ × ℕ). nat_lt y.0 time) xs) (lt-ltb x.0 time b.0) ∙ ap (λ ys. x ∷ ys) (all-below time xs b.1)

-- what a transaction's replies `done` found is there, in a future: at its end, or now while it may still commit
pub record Present (rows : List (ℕ × ℕ)) (w : World) (h : History) (A : ℕ → Bool) (t : ℕ) : Type 0 where
  pub member : A t ≡ true → AreThere t (rows_until h A (txn_in w.txns t).end rows) h
  pub possible : Viable w A t → AreThere t (future_rows h A rows) h

abbrev pub Presence : List (ℕ × ℕ) → World → History → Type 0
Presence rows w h = (A : ℕ → Bool) → Future w h A → (t : ℕ) → (txn_in w.txns t).level ≡ Repeatable → Present rows w h A t

module _ (rows : List (ℕ × ℕ)) (w : World) (h : History) (k : Kept rows w h) (old : Presence rows w h) where
  s : Structure w h
  s = k.structure

  abbrev Goal : Event → Outcome → Type 0
  Goal e o = Known w h o.world e o.reply → (A : ℕ → Bool) → Future o.world (h ++ (e, o.reply) ∷ []) A → (t : ℕ) → (txn_in w.txns t).level ≡ Repeatable → Present rows o.world (h ++ (e, o.reply) ∷ []) A t

  -- a member of the future after the event, if one that draws its end time by the event is not answered by it
  member-step : (new : World) (e : Event) (r : Reply) (kn : Known w h new e r) (A : ℕ → Bool) (fn : Future new (h ++ (e, r) ∷ []) A) (t : ℕ) → (txn_in w.txns t).level ≡ Repeatable →
      ((rs : List (ℕ × ℕ)) → (txn_in w.txns t).state ≡ state.Active → is_preparing (txn_in new.txns t).state ≡ true → is_of t e ≡ true → IsThere rs e r) →
      A t ≡ true → AreThere t (rows_until (h ++ (e, r) ∷ []) A (txn_in new.txns t).end rows) (h ++ (e, r) ∷ [])
  member-step new e r kn A fn t l fresh a =
      ⊎_elim
      (λ d.
      let a0 : A0 t ≡ true = and_from (A t) (is_drawn w h t) a d in
      let end : (txn_in new.txns t).end ≡ (txn_in w.txns t).end = same-end0 d in
      let early : rows_until later A (txn_in w.txns t).end rows ≡ rows_until h A0 (txn_in w.txns t).end rows =
      same-rows rows w new h e r s kn.calm kn.goes kn.fixed kn.told A fn t (txn_in w.txns t).end (let below = s.times.ends_below t in omega (arith, below)) in
      subst (λ n. AreThere t (rows_until later A n rows) later) (sym end)
      (subst (λ rs. AreThere t rs later) (sym early)
      (there-more t (rows_until h A0 (txn_in w.txns t).end rows) h e r ((old A0 f0 t l).member a0)
      (λ m. there-unwritten t _ e r m (kn.calm.writes t (λ active. false≢true (sym (active-out w h A0 t s.settled f0 active) ∙ a0)))))))
      (λ q.
      let early : rows_until later A w.clock rows ≡ rows_until h A0 w.clock rows = same-rows rows w new h e r s kn.calm kn.goes kn.fixed kn.told A fn t w.clock (omega arith) in
      let all : rows_until h A0 w.clock rows ≡ future_rows h A0 rows = ap (λ xs. laid_over h (filter (λ (x : ℕ × ℕ). A0 x.1) xs) rows) (all-below w.clock (order_in h) s.below) in
      let v : Viable w A0 t = ⊎_elim (λ a0. absurd (false≢true (sym (active-out w h A0 t s.settled f0 q.0) ∙ a0))) (λ v. v) (back-member rows w new h e r s kn.calm kn.goes kn.fixed kn.told A fn t a) in
      subst (λ n. AreThere t (rows_until later A n rows) later) (sym q.1)
      (subst (λ rs. AreThere t rs later) (sym (early ∙ all)) (there-more t (future_rows h A0 rows) h e r ((old A0 f0 t l).possible v) (λ m. fresh _ q.0 q.2 m))))
      (kn.calm.drawn t (fn.drawn t a))
    where
      later : History
      later = h ++ (e, r) ∷ []

      A0 : ℕ → Bool
      A0 = before w h A

      f0 : Future w h A0
      f0 = Future-before w h new later A kn.goes s.dependences fn

      same-end0 : is_drawn w h t ≡ true → (txn_in new.txns t).end ≡ (txn_in w.txns t).end
      same-end0 d =
          let both : Some (txn_in new.txns t).end ≡ Some (txn_in w.txns t).end =
          sym ((kn.told t).drawn (fn.drawn t a)) ∙ end_of-append t h ((e, r) ∷ []) ∙ ap (λ o. option_or o (end_of t ((e, r) ∷ []))) (s.drawn t d) in cc

  -- an event that draws no end time
  quiet : (new : World) (e : Event) (r : Reply) → TxnsBack w new → drawn_by e r ≡ [] →
      ((kn : Known w h new e r) (A : ℕ → Bool) → Future w h A → (t : ℕ) → (txn_in w.txns t).level ≡ Repeatable → Viable w A t → Viable new A t → is_of t e ≡ true → IsThere (lay_all (writes_of t h) (future_rows h A rows)) e r) →
      ((t : ℕ) (rs : List (ℕ × ℕ)) → (txn_in w.txns t).state ≡ state.Active → is_preparing (txn_in new.txns t).state ≡ true → is_of t e ≡ true → IsThere rs e r) → Goal e (record { reply = r; world = new })
  quiet new e r b d owed fresh kn A fn t l = record {
    member = member-step new e r kn A fn t l (fresh t);
    possible = λ v.
        (let vt = viable-before w h new later A kn.goes fn t (b.active t) v in
        subst (λ rs. AreThere t rs later) (sym same) (there-more t (future_rows h A rows) h e r ((old A f t l).possible vt) (λ m. owed kn A f t l vt v m)));
  }
    where
      later : History
      later = h ++ (e, r) ∷ []

      f : Future w h A
      f = future-same w h new later A kn.goes s.dependences b.preparing
          (λ u y. ⊎_elim (λ d. d) (λ q. absurd (settled-not-preparing (txn_in new.txns u).state ((kn.told u).settled y) q.2)) (kn.calm.drawn u (or_right (is_preparing (txn_in new.txns u).state) (has_committed later u) y))) fn

      same : future_rows later A rows ≡ future_rows h A rows
      same = future_rows-more A h e r rows (record { draws = d; writes = λ u a. kn.calm.writes u (λ active. false≢true (sym (active-out w h A u s.settled f active) ∙ a)) })

  -- an event whose reply is not `done` to an update or a delete
  plain : (new : World) (e : Event) (r : Reply) → TxnsBack w new → drawn_by e r ≡ [] → ((rs : List (ℕ × ℕ)) → IsThere rs e r) → Goal e (record { reply = r; world = new })
  plain new e r b d n = quiet new e r b d (λ kn A f t l v vn m. n _) (λ t rs a p m. n rs)

  -- a write of x
  wrote-goal : (x key : ℕ) (es : List Effect) (z : ℕ) (new : World) (e : Event) → new.txns ≡ w.txns → new.dependents ≡ (apply_all x w es).dependents → drawn_by e reply.Done ≡ [] → ((u : ℕ) → is_of u e ≡ true → x ≡ u) →
      walk w x ToWrite (bucket_of w key) (of_key w key) ≡ Allow es → last (seen_of w x (of_key w key)) ≡ Some z → ((rs : List (ℕ × ℕ)) → is_some (value_of rs key) ≡ true → IsThere rs e reply.Done) → Goal e (record { reply = reply.Done; world = new })
  wrote-goal x key es z new e same deps d by ok is there =
      quiet new e reply.Done (txns-same w new same) d
      (λ kn A f t l v vn m.
      let q : x ≡ t = by t m in
      subst (λ n. IsThere (lay_all (writes_of n h) (future_rows h A rows)) e reply.Done) q
      (there _ (found-some rows w h k x ToWrite key es ok A f (subst (Viable w A) (sym q) v) (λ u y. (subst (Viable new A) (sym q) vn).depends u (ap (λ ps. has ps u x) deps ∙ y)) (repeatable-now _ (ap (λ n. (txn_in w.txns n).level) q ∙ l)) z is)))
      (λ t rs a p m. absurd (false≢true (sym (ap is_preparing (ap (λ ts. (txn_in ts t).state) same ∙ a)) ∙ p)))

  begin-goal : (x : ℕ) → IsIn w x state.NotBegun → Goal (event.Begin x) (record { reply = reply.Began w.clock; world = begin w x })
  begin-goal x p kn A fn t l = record {
    member = member-step new (event.Begin x) (reply.Began w.clock) kn A fn t l (λ rs a q m. tt);
    possible = λ v.
        subst (λ rs. AreThere t rs later) (sym same)
        (there-more t (future_rows h A rows) h (event.Begin x) (reply.Began w.clock)
        (⊎_elim (λ q. subst (λ n. AreThere n (future_rows h A rows) h) q (there-silent x (future_rows h A rows) h (s.unbegun x p.state)))
        (λ ne. (old A f t l).possible (viable-before w h new later A kn.goes fn t (λ y. ap (λ (z : Txn). z.state) (sym (txn_in-set_other w.txns x t _ (λ e. ne (sym e)))) ∙ y) v)) (cases_same x t))
        (λ m. tt));
  }
    where
      new : World
      new = begin w x

      later : History
      later = h ++ (event.Begin x, reply.Began w.clock) ∷ []

      f : Future w h A
      f = future-same w h new later A kn.goes s.dependences
          (λ u. each_txn-set (λ n y. is_preparing y.state ≡ true → is_preparing (txn_in w.txns n).state ≡ true) w.txns x (record (txn_in w.txns x) { state = state.Active; begin = w.clock }) (λ n q. q) (λ q. absurd (false≢true q)) u)
          (λ u y. ⊎_elim (λ d. d) (λ q. absurd (settled-not-preparing (txn_in new.txns u).state ((kn.told u).settled y) q.2)) (kn.calm.drawn u (or_right (is_preparing (txn_in new.txns u).state) (has_committed later u) y))) fn

      same : future_rows later A rows ≡ future_rows h A rows
      same = future_rows-more A h (event.Begin x) (reply.Began w.clock) rows (record { draws = refl; writes = λ u a. refl })

  prepare-goal : (x : ℕ) → IsActive w x true → waits w x ≡ 0 → Goal (event.Precommit x) (record { reply = reply.Precommitted w.clock; world = prepare w x })
  prepare-goal x a z kn A fn t l = record {
    member = member-step new (event.Precommit x) (reply.Precommitted w.clock) kn A fn t l (λ rs a q m. tt);
    possible = λ v. there-more t (future_rows later A rows) h (event.Precommit x) (reply.Precommitted w.clock)
        (⊎_elim
        (λ yes.
        let same : with_one B x ≡ A = λ j u. (⊎_elim (λ e. cond-true (u == x) true (B u) e ∙ sym yes ∙ ap A (sym (eqb-true u x e))) (λ e. cond-false (u == x) true (B u) e ∙ elsewhere u (λ q. false≢true (sym e ∙ eq-eqb u x q))) (cases_Bool (u == x))) j in
        let vx : Viable w B x = record {
          active = a.state;
          hopeful = a.hopeful;
          depends = λ u c. and_from (A u) (is_drawn w h u) (fn.closed u x c yes) (or_left _ _ (s.dependences.first u x c));
        } in
        let vn : Viable new (with_one B x) t = subst (λ C. Viable new C t) (sym same) v in
        let vt = viable rows w h k x a z B f vx none t vn in
        let ne = other rows w h k x a z B f vx none t vn in
        subst (λ C. AreThere t (future_rows later C rows) h) same
        (subst (λ rs. AreThere t rs h) (sym (rows_now rows w h k x a z B f vx none))
        (there-same t (future_rows h B rows) (lay_all (writes_of x h) (future_rows h B rows)) h
        (λ key y. sym (lay_all-other (writes_of x h) (future_rows h B rows) key (false_from_ne_true (wrote (writes_of x h) key) (λ q. ne ((k.each B f).one_writer t x key vt vx y q)))))
        ((old B f t l).possible vt))))
        (λ off.
        let same : B ≡ A = λ j u. (⊎_elim (λ e. ap B (eqb-true u x e) ∙ bx ∙ sym off ∙ ap A (sym (eqb-true u x e))) (λ e. elsewhere u (λ q. false≢true (sym e ∙ eq-eqb u x q))) (cases_Bool (u == x))) j in
        let fa : Future w h A = subst (Future w h) same f in
        let vt = viable-before w h new later A kn.goes fn t (active-back t) v in
        subst (λ rs. AreThere t rs h) (sym (apart off)) ((old A fa t l).possible vt))
        (cases_Bool (A x)))
        (λ m. tt);
  }
    where
      new : World
      new = prepare w x

      later : History
      later = prepared x w.clock h

      B : ℕ → Bool
      B = before w h A

      f : Future w h B
      f = Future-before w h new later A kn.goes s.dependences fn

      none : NotListed x (order_in h)
      none = unlisted x h (s.undrawn x a.state)

      active-back : (u : ℕ) → (txn_in new.txns u).state ≡ state.Active → (txn_in w.txns u).state ≡ state.Active
      active-back u = each_txn-set (λ n y. y.state ≡ state.Active → (txn_in w.txns n).state ≡ state.Active) w.txns x (record (txn_in w.txns x) { state = state.Preparing; end = w.clock }) (λ n q. q) (λ q. let m : state.Preparing ≡ state.Active = q in cc) u

      bx : B x ≡ false
      bx = false_from_ne_true (B x) (λ y.
          ⊎_elim (λ p. false≢true (sym (ap is_preparing a.state) ∙ p))
          (λ c. false≢true (sym (ap is_settled a.state) ∙ s.settled.settled x c)) (or_cases _ _ (and_parts (A x) (is_drawn w h x) y).1))

      kept_member : (p q : Bool) → (p ≡ true → q ≡ true) → (p && q) ≡ p
      kept_member true q m = m refl
      kept_member false q m = refl

      elsewhere : (u : ℕ) → (u ≡ x → ⊥) → B u ≡ A u
      elsewhere u ne = kept_member (A u) (is_drawn w h u) (λ y.
          ⊎_elim (λ d. d)
          (λ q. let same : txn_in new.txns u ≡ txn_in w.txns u = txn_in-set_other w.txns x u _ ne in
          absurd (false≢true (sym (ap is_preparing q.0) ∙ ap (λ (y : Txn). is_preparing y.state) (sym same) ∙ q.2)))
          (kn.calm.drawn u (fn.drawn u y)))

      apart : A x ≡ false → future_rows later A rows ≡ future_rows h A rows
      apart off =
          laid_over-prepared x w.clock h (filter (λ (y : ℕ × ℕ). A y.1) (order_in later)) rows
          ∙ ap (λ xs. laid_over h (filter (λ (y : ℕ × ℕ). A y.1) xs) rows) (order_in-append h ((event.Precommit x, reply.Precommitted w.clock) ∷ []))
          ∙ ap (λ xs. laid_over h xs rows) (filter-out A (order_in h) (w.clock, x) off)

  walked-back : (t : ℕ) (es : List Effect) → TxnsBack w (apply_all t w es)
  walked-back t es = txns-same w (apply_all t w es) (apply_all-times t w es).txns

  each_goal : EachChange w Goal
  each_goal = record {
    same = λ e r i m. plain w e r (txns-same w w refl) (idle-draws e r i.draws) (λ rs. unanswered-there rs e r m.unanswered);
    aborts = λ e r t cause i l m. plain (abort w t cause) e r (txns-abort w t cause) (idle-draws e r i.draws) (λ rs. unanswered-there rs e r m.unanswered);
    begins = λ t p c. begin-goal t p;
    reads = λ t key es a ok. plain (apply_all t w es) (event.Read t key) _ (walked-back t es) refl (λ rs. tt);
    scans = λ t bucket es a ok. plain (apply_all t w es) (event.Scan t bucket) _ (walked-back t es) refl (λ rs. tt);
    exists = λ t key value v es a ok is. plain (apply_all t w es) (event.Insert t key value) reply.Exists (walked-back t es) refl (λ rs. tt);
    inserts = λ t key value es a ok is free. plain (add_version (apply_all t w es) t key value) (event.Insert t key value) reply.Done (txns-same w (add_version (apply_all t w es) t key value) (apply_all-times t w es).txns) refl (λ rs. tt);
    misses_update = λ t key value es a ok is. plain (apply_all t w es) (event.Update t key value) reply.Absent (walked-back t es) refl (λ rs. tt);
    updates = λ t key value z es a ok is. wrote-goal t key es z (add_version (apply_all t w es) t key value) (event.Update t key value) (apply_all-times t w es).txns refl refl (λ u m. eqb-true t u m) ok is (λ rs y. y);
    misses_delete = λ t key es a ok is. plain (apply_all t w es) (event.Delete t key) reply.Absent (walked-back t es) refl (λ rs. tt);
    deletes = λ t key z es a ok is. wrote-goal t key es z (apply_all t w es) (event.Delete t key) (apply_all-times t w es).txns refl refl (λ u m. eqb-true t u m) ok is (λ rs y. y);
    finishes = λ t a. plain (finish w t) (event.Finish t) reply.Ready (txns-set w (finish w t) t (record (txn_in w.txns t) { no_more_waits = true }) refl refl (λ q. q) (λ q. q)) refl (λ rs. tt);
    prepares = λ t a z c. prepare-goal t a z;
    drops = λ t v r p i n. plain (drop_read w t v) (event.Release t) r (txns-same w (drop_read w t v) refl) (idle-draws (event.Release t) r i.draws) (λ rs. tt);
    unlocks = λ t b p. plain _ (event.Release t) (reply.ReleasedBucket b) (txns-same w _ refl) refl (λ rs. tt);
    frees = λ t u p. plain _ (event.Release t) (reply.ReleasedWaiter u) (txns-same w _ refl) refl (λ rs. tt);
    commits = λ t p z. plain (commit w t) (event.Commit t) reply.Committed (txns-set w (commit w t) t (record (txn_in w.txns t) { state = state.Committed }) refl refl (λ q. let m : state.Committed ≡ state.Active = q in cc) (λ q. absurd (false≢true q))) refl (λ rs. tt);
    stamps_begin = λ t v es p is. plain _ (event.Stamp t) (reply.StampedBegin v) (txns-same w _ refl) refl (λ rs. tt);
    stamps_end = λ t v es p is. plain _ (event.Stamp t) (reply.StampedEnd v) (txns-same w _ refl) refl (λ rs. tt);
    voids = λ t v es cause p is. plain _ (event.Stamp t) (reply.StampedBegin v) (txns-same w _ refl) refl (λ rs. tt);
    gives_back = λ t v es cause r p is i n. plain _ (event.Stamp t) r (txns-same w _ refl) (idle-draws (event.Stamp t) r i.draws) (λ rs. tt);
    ends = λ t p z. plain (end w t) (event.End t) reply.Over (txns-set w (end w t) t (record (txn_in w.txns t) { state = state.Terminated }) refl refl (λ q. let m : state.Terminated ≡ state.Active = q in cc) (λ q. absurd (false≢true q))) refl (λ rs. tt);
  }

pub presence-next : (rows : List (ℕ × ℕ)) (up : AreRising rows) (w : World) (h : History) (e : Event) → Whole rows w h → Presence rows w h → Presence rows (next w e) (h ++ (e, reply_to w e) ∷ [])
presence-next rows up w h e whole old A f t l =
    let k = kept rows w h whole in
    let kn = known-next rows up w h e whole in
    each_outcome w (Goal rows w h k old) (each_goal rows w h k old) e kn A f t (sym (kn.fixed.level t) ∙ l)

pub presence-run : (rows : List (ℕ × ℕ)) (up : AreRising rows) (w : World) (h : History) (es : List Event) → Whole rows w h → Presence rows w h → Presence rows (run w es) (h ++ transcript w es)
presence-run rows up w h [] whole old = subst (Presence rows w) (sym (append-nil h)) old
presence-run rows up w h (e ∷ es) whole old =
    subst (Presence rows (run (next w e) es)) (append_assoc h ((e, reply_to w e) ∷ []) (transcript (next w e) es))
    (presence-run rows up (next w e) (h ++ (e, reply_to w e) ∷ []) es (whole-next rows up w h e whole) (presence-next rows up w h e whole old))

-- ---- place by place
pub there-at : (t : ℕ) (rows : List (ℕ × ℕ)) (h : History) → AreThere t rows h → (i : ℕ) (p : Event × Reply) → slice_get h i ≡ Some p → is_of t p.0 ≡ true → IsThere (lay_all (writes_of t (take i h)) rows) p.0 p.1
there-at t rows [] a i p at m = cc
there-at t rows (q ∷ qs) a zero p at m = let same : q ≡ p = cc in subst (λ (x : Event × Reply). is_of t x.0 ≡ true → IsThere rows x.0 x.1) same a.0 m
there-at t rows (q ∷ qs) a (suc i) p at m =
    subst (λ rs. IsThere rs p.0 p.1) (sym (lay_all-append (write_of t q.0 q.1) (writes_of t (take i qs)) rows)) (there-at t (lay_all (write_of t q.0 q.1) rows) qs a.1 i p at m)
