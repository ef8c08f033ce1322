-- End times in a transcript without a fault: each committed transaction has one, and no two have the same.
use Rattle.std.proofs.Common.{◌≡◌, ℕ, zero, suc, Bool, true, false, List, [], ◌∷◌, ◌++◌, length, Option, Some, None, refl, sym, ap, ◌∙◌, inl, inr, ◌⊎◌, ⊎_elim, take, subst, add-one, arith}
use Rattle.std.proofs.lemmas.Bool.{eq-eqb, eqb-true, not-true, or_cases, or_left, or_right, false≢true}
use Rattle.std.specs.Prelude.{◌==◌, ◌&&◌, slice_get}
use Rattle.std.specs.List.{list_any}
use Rattle.std.specs.Option.{option_or}
use Rattle.hek_rules.specs.declared.event.Event.{Event}
use Rattle.hek_rules.specs.declared.event.Event.TheVariants as event
use Rattle.hek_rules.specs.declared.reply.Reply.{Reply}
use Rattle.hek_rules.specs.declared.reply.Reply.TheVariants as reply
use Rattle.hek_rules.specs.Listing.{is_among}
use Rattle.hek_rules.specs.Serial.{end_of, committed_by, committed_in}
use Rattle.hek_rules.specs.Faults.{is_time, is_new_time, commits_anew}
use Rattle.hek_laws.proofs.Worlds.Histories.{committed_in-append, end_of-append, append-nil}
use Rattle.hek_serial.proofs.Undo.{take_one_more}
use Rattle.hek_serial.proofs.EndSteps.{all_taken}

-- each committed transaction has an end time, and no two have the same
pub record AreApart (h : List (Event × Reply)) : Type 0 where
  pub drawn : (t : ℕ) → is_among (committed_in h) t ≡ true → (time : ℕ) × (end_of t h ≡ Some time)
  pub apart : (t u time : ℕ) → is_among (committed_in h) t ≡ true → is_among (committed_in h) u ≡ true → end_of t h ≡ Some time → end_of u h ≡ Some time → t ≡ u

among-append : (xs : List ℕ) (x t : ℕ) → is_among (xs ++ x ∷ []) t ≡ true → (is_among xs t ≡ true) ⊎ (x ≡ t)
among-append [] x t e = ⊎_elim (λ y. inr (eqb-true x t y)) (λ n. absurd (false≢true n)) (or_cases (x == t) false e)
among-append (y ∷ ys) x t e =
    ⊎_elim (λ here. inl (or_left (y == t) (is_among ys t) here))
    (λ rest. ⊎_elim (λ old. inl (or_right (y == t) (is_among ys t) old)) (λ new. inr new) (among-append ys x t rest))
    (or_cases (y == t) (is_among (ys ++ x ∷ []) t) e)

pub one_at_most : (e : Event) (r : Reply) → (committed_by e r ≡ []) ⊎ ((x : ℕ) × (committed_by e r ≡ x ∷ []))
one_at_most (event.Commit x) reply.Committed = inr (x, refl)
one_at_most e r = inl refl

pub same_time : (m n : ℕ) → ◌≡◌ {A = Option ℕ} (Some m) (Some n) → m ≡ n
same_time m n s = cc

-- an end time that was drawn stays as the history grows
keeps_end : (h g : List (Event × Reply)) (t time : ℕ) → end_of t h ≡ Some time → end_of t (h ++ g) ≡ Some time
keeps_end h g t time e = end_of-append t h g ∙ ap (λ o. option_or o (end_of t g)) e

had_end : (h g : List (Event × Reply)) (t x time : ℕ) → end_of t h ≡ Some x → end_of t (h ++ g) ≡ Some time → end_of t h ≡ Some time
had_end h g t x time e f = e ∙ ap Some (same_time x time (sym (keeps_end h g t x e) ∙ f))

-- an end time that no committed transaction has
record IsNew (h : List (Event × Reply)) (x : ℕ) : Type 0 where
  time : ℕ
  end : end_of x h ≡ Some time
  none : list_any (λ (t : ℕ). is_time time (end_of t h)) (committed_in h) ≡ false

new_from : (h : List (Event × Reply)) (x : ℕ) (o : Option ℕ) → end_of x h ≡ o → is_new_time h o ≡ true → IsNew h x
new_from h x None is e = absurd (false≢true e)
new_from h x (Some time) is e = record { time = time; end = is; none = not-true _ e }

taken : (h : List (Event × Reply)) (ts : List ℕ) (t time : ℕ) → is_among ts t ≡ true → end_of t h ≡ Some time → list_any (λ (u : ℕ). is_time time (end_of u h)) ts ≡ true
taken h [] t time i e = absurd (false≢true i)
taken h (u ∷ us) t time i e =
    let rest : Bool = list_any (λ (v : ℕ). is_time time (end_of v h)) us in
    ⊎_elim (λ here. or_left (is_time time (end_of u h)) rest (ap (is_time time) (ap (λ n. end_of n h) (eqb-true u t here) ∙ e) ∙ eq-eqb time time refl))
    (λ later. or_right (is_time time (end_of u h)) rest (taken h us t time later e)) (or_cases (u == t) (is_among us t) i)

apart-same : (h g : List (Event × Reply)) → AreApart h → committed_in (h ++ g) ≡ committed_in h → AreApart (h ++ g)
apart-same h g a same =
    let back : (t : ℕ) → is_among (committed_in (h ++ g)) t ≡ true → is_among (committed_in h) t ≡ true = λ t i. subst (λ ts. is_among ts t ≡ true) same i in
    record {
      drawn = λ t i. (let d = a.drawn t (back t i) in (d.0, keeps_end h g t d.0 d.1));
      apart = λ t u time i j e f.
          (let d = a.drawn t (back t i) in
          let c = a.drawn u (back u j) in
          a.apart t u time (back t i) (back u j) (had_end h g t d.0 time d.1 e) (had_end h g u c.0 time c.1 f));
    }

module _ (h g : List (Event × Reply)) (x : ℕ) (a : AreApart h) (n : IsNew h x) where
  new_end : (t : ℕ) → x ≡ t → end_of t h ≡ Some n.time
  new_end t is = ap (λ m. end_of m h) (sym is) ∙ n.end

  clash : (t u time : ℕ) → is_among (committed_in h) t ≡ true → x ≡ u → end_of t (h ++ g) ≡ Some time → end_of u (h ++ g) ≡ Some time → ⊥
  clash t u time old is e f =
      let d = a.drawn t old in
      let one : time ≡ n.time = same_time time n.time (sym f ∙ keeps_end h g u n.time (new_end u is)) in
      let mine : end_of t h ≡ Some n.time = had_end h g t d.0 time d.1 e ∙ ap Some one in
      false≢true (sym n.none ∙ taken h (committed_in h) t n.time old mine)

  apart-one : committed_in (h ++ g) ≡ committed_in h ++ x ∷ [] → AreApart (h ++ g)
  apart-one grown =
      let which : (t : ℕ) → is_among (committed_in (h ++ g)) t ≡ true → (is_among (committed_in h) t ≡ true) ⊎ (x ≡ t) =
      λ t i. among-append (committed_in h) x t (subst (λ ts. is_among ts t ≡ true) grown i) in
      record {
        drawn = λ t i.
            ⊎_elim (λ old. (let d = a.drawn t old in (d.0, keeps_end h g t d.0 d.1))) (λ is. (n.time, keeps_end h g t n.time (new_end t is))) (which t i);
        apart = λ t u time i j e f.
            ⊎_elim
            (λ old. ⊎_elim
            (λ both.
            let d = a.drawn t old in
            let c = a.drawn u both in
            a.apart t u time old both (had_end h g t d.0 time d.1 e) (had_end h g u c.0 time c.1 f))
            (λ is. absurd (clash t u time old is e f)) (which u j))
            (λ is. ⊎_elim (λ old. absurd (clash u t time old is f e)) (λ both. sym is ∙ both) (which u j))
            (which t i);
      }

new_of : (h : List (Event × Reply)) (x : ℕ) (ts : List ℕ) → ts ≡ x ∷ [] → commits_anew h ts ≡ true → is_new_time h (end_of x h) ≡ true
new_of h x ts is e = one (is_new_time h (end_of x h)) (subst (λ us. commits_anew h us ≡ true) is e)
  where
    one : (b : Bool) → (b && true) ≡ true → b ≡ true
    one true e = refl
    one false e = e

apart-more : (h : List (Event × Reply)) (e : Event) (r : Reply) → AreApart h → commits_anew h (committed_by e r) ≡ true → AreApart (h ++ (e, r) ∷ [])
apart-more h e r a new =
    let grown : committed_in (h ++ (e, r) ∷ []) ≡ committed_in h ++ committed_by e r = committed_in-append h ((e, r) ∷ []) ∙ ap (λ ts. committed_in h ++ ts) (append-nil (committed_by e r)) in
    ⊎_elim
    (λ none. apart-same h ((e, r) ∷ []) a (grown ∙ ap (λ ts. committed_in h ++ ts) none ∙ append-nil (committed_in h)))
    (λ one. apart-one h ((e, r) ∷ []) one.0 a (new_from h one.0 (end_of one.0 h) refl (new_of h one.0 (committed_by e r) one.1 new)) (grown ∙ ap (λ ts. committed_in h ++ ts) one.1))
    (one_at_most e r)

-- the end of the history
no_more : (h : List (Event × Reply)) (n : ℕ) → slice_get h n ≡ None → take (suc n) h ≡ take n h
no_more [] zero e = refl
no_more [] (suc n) e = refl
no_more (p ∷ ps) zero e = cc
no_more (p ∷ ps) (suc n) e = ap (λ qs. p ∷ qs) (no_more ps n e)

-- no commit of the history is at fault
abbrev pub CommitsAnew : List (Event × Reply) → Type 0
CommitsAnew h = (i : ℕ) (e : Event) (r : Reply) → slice_get h i ≡ Some (e, r) → commits_anew (take i h) (committed_by e r) ≡ true

apart-next : (h : List (Event × Reply)) (n : ℕ) (o : Option (Event × Reply)) → slice_get h n ≡ o → CommitsAnew h → AreApart (take n h) → AreApart (take (suc n) h)
apart-next h n None is new a = subst AreApart (sym (no_more h n is)) a
apart-next h n (Some p) is new a =
    let longer : take (suc n) h ≡ take n h ++ p ∷ [] = ap (λ m. take m h) (sym (add-one n)) ∙ take_one_more h n p is in
    subst AreApart (sym longer) (apart-more (take n h) p.0 p.1 a (new n p.0 p.1 is))

apart-front : (h : List (Event × Reply)) → CommitsAnew h → (n : ℕ) → AreApart (take n h)
apart-front h new zero = record { drawn = λ t i. absurd (false≢true i); apart = λ t u time i j e f. absurd (false≢true i) }
apart-front h new (suc n) = apart-next h n (slice_get h n) refl new (apart-front h new n)

pub ends_apart : (h : List (Event × Reply)) → CommitsAnew h → AreApart h
ends_apart h new = subst AreApart (all_taken h (length h) (omega arith)) (apart-front h new (length h))
