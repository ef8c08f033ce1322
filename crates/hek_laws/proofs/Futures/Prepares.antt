-- The invariant after a transaction draws its end time, in the futures that contain it.
use Rattle.std.proofs.Common.{◌≡◌, ℕ, Bool, true, false, cond, List, [], ◌∷◌, ◌++◌, refl, ◌∙◌, ap, sym, Some, None, ⊎_elim, subst, append_assoc}
use Rattle.std.proofs.lemmas.Bool.{cases_Bool, false≢true, and_parts, and_from, cond-true, cond-false, eqb-true, eq-eqb, ne_eqb}
use Rattle.std.proofs.lemmas.List.Elements.{filter-append}
use Rattle.std.specs.Prelude.{not, ◌==◌, ◌⊎◌, filter}
use Rattle.hek_rules.specs.declared.event.State.TheVariants.{Active, Preparing}
use Rattle.hek_rules.specs.Listing.{has, value_of}
use Rattle.hek_rules.specs.declared.word.BeginRecord.{BeginRecord}
use Rattle.hek_rules.specs.declared.word.BeginRecord.TheVariants.{At, By}
use Rattle.hek_rules.specs.World.{World, Ender, EndedAt, Held, Txn, txn_in, version_in, is_held_by, is_made_by, is_preparing}
use Rattle.hek_rules.specs.Waits.{waits}
use Rattle.hek_rules.specs.Table.{prepare}
use Rattle.hek_rules.specs.Serial.{laid_over, lay_all, writes_of}
use Rattle.hek_rules.specs.declared.event.Event.TheVariants as event
use Rattle.hek_rules.specs.declared.reply.Reply.TheVariants as reply
use Rattle.hek_laws.proofs.Table.SetTxns.{txn_in-set_other, txn_in-set_same}
use Rattle.hek_laws.proofs.Worlds.Histories.{laid_over-append, writes_of-append, append-nil}
use Rattle.hek_laws.proofs.Table.Cases.{IsActive}
use Rattle.hek_laws.proofs.Futures.Living.{with_one, made_in, kept_in, lives}
use Rattle.hek_laws.proofs.Futures.Matches.{Matches, Matches-prepare, lives_at}
use Rattle.hek_laws.proofs.Lists.Overlay.{wrote}
use Rattle.hek_laws.proofs.Futures.Survivors.{History, Future, Viable}
use Rattle.hek_laws.proofs.Futures.Invariant.{Kept, InFuture, order_in, future_rows, relies, waits-none, drawn_by}

abbrev pub prepared : ℕ → ℕ → History → History
prepared x time h = h ++ (event.Precommit x, reply.Precommitted time) ∷ []

pub writes_of-prepared : (x time t : ℕ) (h : History) → writes_of t (prepared x time h) ≡ writes_of t h
writes_of-prepared x time t h = writes_of-append t h _ ∙ append-nil (writes_of t h)

pub laid_over-prepared : (x time : ℕ) (h : History) (xs rows : List (ℕ × ℕ)) → laid_over (prepared x time h) xs rows ≡ laid_over h xs rows
laid_over-prepared x time h [] rows = refl
laid_over-prepared x time h (y ∷ ys) rows =
    ap (λ ws. laid_over (prepared x time h) ys (lay_all ws rows)) (writes_of-prepared x time y.1 h) ∙ laid_over-prepared x time h ys (lay_all (writes_of y.1 h) rows)

pub order_in-append : (g h : History) → order_in (g ++ h) ≡ order_in g ++ order_in h
order_in-append [] h = refl
order_in-append (p ∷ ps) h = ap (λ xs. drawn_by p.0 p.1 ++ xs) (order_in-append ps h) ∙ sym (append_assoc (drawn_by p.0 p.1) (order_in ps) (order_in h))

-- x is not in the order
abbrev pub NotListed : ℕ → List (ℕ × ℕ) → Type 0
NotListed x [] = Unit {0}
NotListed x (y ∷ ys) = ((y.1 == x) ≡ false) × NotListed x ys

pub filter-joined : (x : ℕ) (A : ℕ → Bool) (ys : List (ℕ × ℕ)) → NotListed x ys → filter (λ (y : ℕ × ℕ). with_one A x y.1) ys ≡ filter (λ (y : ℕ × ℕ). A y.1) ys
filter-joined x A [] n = refl
filter-joined x A (y ∷ ys) n =
    ap (λ b. cond b (y ∷ filter (λ (z : ℕ × ℕ). with_one A x z.1) ys) (filter (λ (z : ℕ × ℕ). with_one A x z.1) ys)) (cond-false (y.1 == x) true (A y.1) n.0)
    ∙ ap (λ zs. cond (A y.1) (y ∷ zs) zs) (filter-joined x A ys n.1)

-- the rows of the future with x are the rows before under the writes of x
pub future_rows-joined : (x time : ℕ) (h : History) (A : ℕ → Bool) (rows : List (ℕ × ℕ)) → NotListed x (order_in h) →
    future_rows (prepared x time h) (with_one A x) rows ≡ lay_all (writes_of x h) (future_rows h A rows)
future_rows-joined x time h A rows n =
    let B : ℕ × ℕ → Bool = λ y. with_one A x y.1 in
    let mine : B (time, x) ≡ true = cond-true (x == x) true (A x) (eq-eqb x x refl) in
    laid_over-prepared x time h (filter B (order_in (prepared x time h))) rows
    ∙ ap (λ xs. laid_over h (filter B xs) rows) (order_in-append h ((event.Precommit x, reply.Precommitted time) ∷ []))
    ∙ ap (λ xs. laid_over h xs rows) (filter-append B (order_in h) ((time, x) ∷ []) ∙ ap (λ b. filter B (order_in h) ++ cond b ((time, x) ∷ []) []) mine)
    ∙ laid_over-append h (filter B (order_in h)) ((time, x) ∷ []) rows
    ∙ ap (λ xs. lay_all (writes_of x h) (laid_over h xs rows)) (filter-joined x A (order_in h) n)

-- a version that lives with x and that x did not make lived without x
pub lives-less : (x : ℕ) (A : ℕ → Bool) (c : BeginRecord) (e : Ender) → is_made_by x c ≡ false → lives (with_one A x) c e ≡ true → lives A c e ≡ true
lives-less x A c e out l =
    let p = and_parts (made_in (with_one A x) c) (kept_in (with_one A x) e) l in and_from _ _ (made c out p.0) (kept e p.1)
  where
    made : (c : BeginRecord) → is_made_by x c ≡ false → made_in (with_one A x) c ≡ true → made_in A c ≡ true
    made (At time) o m = m
    made (By u) o m = sym (cond-false (u == x) true (A u) o) ∙ m

    kept : (e : Ender) → kept_in (with_one A x) e ≡ true → kept_in A e ≡ true
    kept (EndedAt time) k = k
    kept (Held None no_more) k = k
    kept (Held (Some u) no_more) k =
        ⊎_elim (λ same. absurd (false≢true (sym (ap not (cond-true (u == x) true (A u) same)) ∙ k)))
        (λ other. sym (ap not (cond-false (u == x) true (A u) other)) ∙ k) (cases_Bool (u == x))

-- a version that lives and that another transaction holds lives with x
pub lives-more : (x t : ℕ) (A : ℕ → Bool) (c : BeginRecord) (e : Ender) → (t ≡ x → ⊥) → is_held_by t e ≡ true → lives A c e ≡ true → lives (with_one A x) c e ≡ true
lives-more x t A c e apart held l =
    let p = and_parts (made_in A c) (kept_in A e) l in and_from _ _ (made c p.0) (kept e held p.1)
  where
    made : (c : BeginRecord) → made_in A c ≡ true → made_in (with_one A x) c ≡ true
    made (At time) m = m
    made (By u) m = ⊎_elim (λ same. cond-true (u == x) true (A u) same) (λ other. cond-false (u == x) true (A u) other ∙ m) (cases_Bool (u == x))

    kept : (e : Ender) → is_held_by t e ≡ true → kept_in A e ≡ true → kept_in (with_one A x) e ≡ true
    kept (EndedAt time) h k = k
    kept (Held None no_more) h k = k
    kept (Held (Some u) no_more) h k = ap not (cond-false (u == x) true (A u) (ne_eqb u x (λ e. apart (sym (eqb-true _ _ h) ∙ e)))) ∙ k

module _ (rows : List (ℕ × ℕ)) (w : World) (h : History) (k : Kept rows w h) (x : ℕ) (a : IsActive w x true) (z : waits w x ≡ 0)
    (A : ℕ → Bool) (f : Future w h A) (vx : Viable w A x) (new : NotListed x (order_in h)) where
  i : InFuture w h rows A
  i = k.each A f

  abbrev later : History
  later = prepared x w.clock h

  -- another transaction that may commit after x draws its end time might before
  pub other : (t : ℕ) → Viable (prepare w x) (with_one A x) t → (t ≡ x → ⊥)
  other t v e =
      let is : (txn_in (prepare w x).txns x).state ≡ Preparing = ap (λ (y : Txn). y.state) (txn_in-set_same w.txns x _ a.known) in
      let was : (txn_in (prepare w x).txns x).state ≡ Active = subst (λ n. (txn_in (prepare w x).txns n).state ≡ Active) e v.active in
      let wrong : Preparing ≡ Active = sym is ∙ was in cc

  same_txn : (t : ℕ) → (t ≡ x → ⊥) → txn_in (prepare w x).txns t ≡ txn_in w.txns t
  same_txn t n = txn_in-set_other w.txns x t _ n

  pub viable : (t : ℕ) → Viable (prepare w x) (with_one A x) t → Viable w A t
  viable t v =
      let same = same_txn t (other t v) in
      record {
        active = ap (λ (y : Txn). y.state) (sym same) ∙ v.active;
        hopeful = ap (λ (y : Txn). y.abort_now) (sym same) ∙ v.hopeful;
        depends = λ u c. sym (cond-false (u == x) true (A u) (ne_eqb u x (λ e.
            let p = subst (λ n. is_preparing (txn_in w.txns n).state ≡ true) e (k.structure.dependences.first u t c) in
            absurd (false≢true (sym (ap is_preparing a.state) ∙ p))))) ∙ v.depends u c;
      }

  pub rows_now : future_rows later (with_one A x) rows ≡ lay_all (writes_of x h) (future_rows h A rows)
  rows_now = future_rows-joined x w.clock h A rows new

  made_wrote : (key v : ℕ) → (version_in w.versions v).key ≡ key → is_made_by x (version_in w.versions v).creator ≡ true → wrote (writes_of x h) key ≡ true
  made_wrote key v e m =
      ⊎_elim (λ yes. yes) (λ no. absurd (false≢true (sym ((k.structure.off x key a.state no).made v e) ∙ m))) (cases_Bool (wrote (writes_of x h) key))

  pub joined-matches : (key : ℕ) → Matches w.versions (with_one A x) key (value_of (future_rows later (with_one A x) rows) key)
  joined-matches key = subst (λ m. Matches w.versions (with_one A x) key (value_of m key)) (sym rows_now) (i.matches_own x key vx)

  pub joined-matches_own : (t key : ℕ) → Viable (prepare w x) (with_one A x) t → Matches w.versions (with_one (with_one A x) t) key (value_of (lay_all (writes_of t later) (future_rows later (with_one A x) rows)) key)
  joined-matches_own t key v =
      let vt = viable t v in
      subst (λ m. Matches w.versions (with_one (with_one A x) t) key (value_of (lay_all (writes_of t later) m) key)) (sym rows_now)
      (subst (λ ws. Matches w.versions (with_one (with_one A x) t) key (value_of (lay_all ws (lay_all (writes_of x h) (future_rows h A rows))) key)) (sym (writes_of-prepared x w.clock t h))
      (Matches-prepare w.versions A t x key (writes_of t h) (writes_of x h) (future_rows h A rows) (i.matches_own t key vt) (i.matches_own x key vx)
      (k.structure.off t key vt.active) (k.structure.off x key a.state) (λ p q. other t v (i.one_writer t x key vt vx p q))))

  pub joined-ended : (t key v : ℕ) → Viable (prepare w x) (with_one A x) t → wrote (writes_of t h) key ≡ true → (version_in w.versions v).key ≡ key → lives_at w.versions (with_one A x) v ≡ true → is_held_by t (version_in w.versions v).ender ≡ true
  joined-ended t key v u p e l =
      ⊎_elim (λ mine. absurd (other t u (i.one_writer t x key (viable t u) vx p (made_wrote key v e mine))))
      (λ out. i.ended t key v (viable t u) p e (lives-less x A _ _ out l)) (cases_Bool (is_made_by x (version_in w.versions v).creator))

  pub joined-locked : (t key v : ℕ) → Viable (prepare w x) (with_one A x) t → relies (txn_in w.txns t).level w.buckets t key h ≡ true → (version_in w.versions v).key ≡ key → lives_at w.versions (with_one A x) v ≡ true →
      (has w.read_locks t v ≡ true) ⊎ (is_held_by t (version_in w.versions v).ender ≡ true)
  joined-locked t key v u p e l =
      ⊎_elim (λ mine. absurd (waits-none w x t z (i.waits t x key (viable t u) vx (other t u) p (made_wrote key v e mine))))
      (λ out. i.locked t key v (viable t u) p e (lives-less x A _ _ out l)) (cases_Bool (is_made_by x (version_in w.versions v).creator))

  -- x wrote no key that another transaction relies on
  pub joined-untouched : (t key : ℕ) → Viable (prepare w x) (with_one A x) t → relies (txn_in w.txns t).level w.buckets t key h ≡ true → wrote (writes_of x h) key ≡ false
  joined-untouched t key u p =
      ⊎_elim (λ yes. absurd (waits-none w x t z (i.waits t x key (viable t u) vx (other t u) p yes))) (λ no. no) (cases_Bool (wrote (writes_of x h) key))
