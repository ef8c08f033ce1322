-- The places of each transaction, with one more event in front.
use Rattle.std.proofs.Common.{◌≡◌, ℕ, zero, suc, ◌+◌, ◌<◌, ◌≤◌, Bool, true, false, List, [], ◌∷◌, ◌++◌, take, length, refl, ◌∙◌, ap, sym, subst, Some, None, Option, arith, ⊎_elim, get_or, set, replicate}
use Rattle.std.proofs.lemmas.List.{length-set, length-replicate, get_or-replicate, get_or-set_same, get_or-set_other}
use Rattle.std.proofs.Math.Seq.{take-append_seam}
use Rattle.std.proofs.lemmas.Bool.{cases_Bool, cases_eq, cond-true, cond-false, cond_both, eq-eqb, eqb-false, ltb-true, false≢true}
use Rattle.std.specs.Prelude.{slice_get, slice_index, unwrap_or, nat_lt, if◌then◌else◌, ◌==◌}
use Rattle.hek_rules.specs.declared.event.Event.{Event}
use Rattle.hek_rules.specs.Events.{txn_of}
use Rattle.hek_rules.specs.Serial.{is_of}
use Rattle.hek_rules.specs.Listing.{put, value_of}
use Rattle.hek_laws.proofs.Lists.Overlay.{value_of-put}
use Rattle.hek_serial.specs.Links.{comes_at, is_event_of, IsNextOf, AreEventLinks, linked_place, next_in, with_near, with_far}
use Rattle.hek_serial.proofs.Verdicts.{is_of-to, named, is_of-named}

-- the links of the events from a place on
pub record AreFrom (es : List Event) (i : ℕ) (near : List ℕ) (far : List (ℕ × ℕ)) (next : List ℕ) : Type 0 where
  pub long : length next ≡ length es
  pub starts : (t : ℕ) → IsNextOf t es i (linked_place near far (length es) t)
  pub follows : (t j : ℕ) → i ≤ j → comes_at t es j ≡ true → IsNextOf t es (j + 1) (slice_index next j)

pub event-at : (es : List Event) (i : ℕ) (e : Event) → i < length es → e ≡ get_or es i e → slice_get es i ≡ Some e
event-at [] i e l is = absurd (omega (arith, l))
event-at (x ∷ es) zero e l is = ap Some (sym is)
event-at (x ∷ es) (suc i) e l is = event-at es i e (omega (arith, l)) is

past : (t : ℕ) (es : List Event) (i : ℕ) → length es ≤ i → comes_at t es i ≡ false
past t [] i l = refl
past t (e ∷ es) zero l = absurd (omega (arith, l))
past t (e ∷ es) (suc i) l = past t es i (omega (arith, l))

-- before the first event no place is kept
none_kept : (below count t : ℕ) → linked_place (replicate below count) [] count t ≡ count
none_kept below count t =
    cond_both (nat_lt t (length (replicate below count))) (slice_index (replicate below count) t) count (λ n. n ≡ count)
    (λ y. get_or-replicate below t count 0 (low (ltb-true t (length (replicate below count)) y) (length-replicate below count)))
    (λ _. refl)
  where
    low : {a b c : ℕ} → a < b → b ≡ c → a < c
    low l e = omega (arith, l, e)

pub none_linked : (es : List Event) (below : ℕ) (near next : List ℕ) (far : List (ℕ × ℕ)) → near ≡ replicate below (length es) → far ≡ [] → length next ≡ length es → AreFrom es (length es) near far next
none_linked es below near next far all none long =
    record {
      long = long;
      starts = λ t.
          subst (IsNextOf t es (length es)) (sym (ap (λ ns. linked_place ns far (length es) t) all ∙ ap (λ m. linked_place (replicate below (length es)) m (length es) t) none ∙ none_kept below (length es) t))
          (record { on = omega arith; within = omega arith; between = λ j a l. absurd (omega (arith, a, l)); there = λ l. absurd (omega (arith, l)) });
      follows = λ t j l c. absurd (false≢true (sym (past t es j l) ∙ c));
    }

pub all_linked : (es : List Event) (near : List ℕ) (far : List (ℕ × ℕ)) (next : List ℕ) → AreFrom es 0 near far next → AreEventLinks es near far next
all_linked es near far next a = record { long = a.long; starts = a.starts; follows = λ t i c. a.follows t i (omega arith) c }

-- the place kept for another transaction stays
other_set : (near : List ℕ) (far : List (ℕ × ℕ)) (i count t x : ℕ) → (x == t) ≡ false → linked_place (set near x i) far count t ≡ linked_place near far count t
other_set near far i count t x n =
    ap (λ m. if nat_lt t m then slice_index (set near x i) t else unwrap_or (value_of far t) count) (length-set near x i)
    ∙ ap (λ v. if nat_lt t (length near) then v else unwrap_or (value_of far t) count) (get_or-set_other near x t i 0 (λ e. eqb-false x t n (sym e)))

other_put : (near : List ℕ) (far : List (ℕ × ℕ)) (i count t x : ℕ) → (x == t) ≡ false → linked_place near (put x i far) count t ≡ linked_place near far count t
other_put near far i count t x n =
    ap (λ o. if nat_lt t (length near) then slice_index near t else unwrap_or o count) (value_of-put far x i t ∙ cond-false (x == t) (Some i) (value_of far t) n)

other_place : (near : List ℕ) (far : List (ℕ × ℕ)) (i count t : ℕ) (o : Option ℕ) → named o t ≡ false → linked_place (with_near near i o) (with_far near far i o) count t ≡ linked_place near far count t
other_place near far i count t None n = refl
other_place near far i count t (Some x) n = either (nat_lt x (length near))
  where
    either : (b : Bool) → linked_place (if b then set near x i else near) (if b then far else put x i far) count t ≡ linked_place near far count t
    either true = other_set near far i count t x n
    either false = other_put near far i count t x n

own_place : (near : List ℕ) (far : List (ℕ × ℕ)) (i count t : ℕ) → linked_place (with_near near i (Some t)) (with_far near far i (Some t)) count t ≡ i
own_place near far i count t = either (nat_lt t (length near)) refl
  where
    either : (b : Bool) → nat_lt t (length near) ≡ b → linked_place (if b then set near t i else near) (if b then far else put t i far) count t ≡ i
    either true y =
        ap (λ m. if nat_lt t m then slice_index (set near t i) t else unwrap_or (value_of far t) count) (length-set near t i)
        ∙ cond-true (nat_lt t (length near)) (slice_index (set near t i) t) (unwrap_or (value_of far t) count) y ∙ get_or-set_same near t i 0 (ltb-true t (length near) y)
    either false n =
        cond-false (nat_lt t (length near)) (slice_index near t) (unwrap_or (value_of (put t i far) t) count) n
        ∙ ap (λ o. unwrap_or o count) (value_of-put far t i t ∙ cond-true (t == t) (Some i) (value_of far t) (eq-eqb t t refl))

pub above : (a b : ℕ) → b ≤ a → (a ≡ b → ⊥) → b + 1 ≤ a
above a b m n = omega (arith, m, n)

from_here : (t : ℕ) (es : List Event) (i n : ℕ) → comes_at t es i ≡ false → IsNextOf t es (i + 1) n → IsNextOf t es i n
from_here t es i n off is =
    let on = is.on in
    record {
      on = omega (arith, on);
      within = is.within;
      between = λ j a l. ⊎_elim (λ same. ap (comes_at t es) same ∙ off) (λ other. is.between j (above j i a other) l) (cases_eq j i);
      there = is.there;
    }

starts_here : (es : List Event) (i : ℕ) (e : Event) (near : List ℕ) (far : List (ℕ × ℕ)) → i < length es → slice_get es i ≡ Some e →
    ((t : ℕ) → IsNextOf t es (i + 1) (linked_place near far (length es) t)) → (t : ℕ) → IsNextOf t es i (linked_place (with_near near i (txn_of e)) (with_far near far i (txn_of e)) (length es) t)
starts_here es i e near far l at starts t =
    let here : comes_at t es i ≡ is_of t e = ap (is_event_of t) at in
    ⊎_elim
    (λ y.
    let place : linked_place (with_near near i (txn_of e)) (with_far near far i (txn_of e)) (length es) t ≡ i =
    ap (λ o. linked_place (with_near near i o) (with_far near far i o) (length es) t) (is_of-to e t y) ∙ own_place near far i (length es) t in
    subst (IsNextOf t es i) (sym place) (record { on = omega arith; within = omega (arith, l); between = λ j a b. absurd (omega (arith, a, b)); there = λ _. here ∙ y }))
    (λ n.
    subst (IsNextOf t es i) (sym (other_place near far i (length es) t (txn_of e) (sym (is_of-named e t) ∙ n))) (from_here t es i _ (here ∙ n) (starts t)))
    (cases_Bool (is_of t e))

pub one_linked : (es : List Event) (i : ℕ) (e : Event) (near : List ℕ) (far : List (ℕ × ℕ)) (next : List ℕ) → i < length es → slice_get es i ≡ Some e → AreFrom es (i + 1) near far next →
    AreFrom es i (with_near near i (txn_of e)) (with_far near far i (txn_of e)) (set next i (next_in near far (length es) (txn_of e)))
one_linked es i e near far next l at a =
    let new = next_in near far (length es) (txn_of e) in
    let long = a.long in
    record {
      long = length-set next i new ∙ long;
      starts = starts_here es i e near far l at a.starts;
      follows = λ t j b c.
          ⊎_elim
          (λ same.
          let mine : is_of t e ≡ true = sym (ap (is_event_of t) at) ∙ ap (comes_at t es) (sym same) ∙ c in
          let is : slice_index (set next i new) j ≡ linked_place near far (length es) t =
          ap (slice_index (set next i new)) same ∙ get_or-set_same next i new 0 (omega (arith, l, long)) ∙ ap (next_in near far (length es)) (is_of-to e t mine) in
          subst (IsNextOf t es (j + 1)) (sym is) (subst (λ m. IsNextOf t es (m + 1) (linked_place near far (length es) t)) (sym same) (a.starts t)))
          (λ other. subst (IsNextOf t es (j + 1)) (sym (get_or-set_other next i j new 0 other)) (a.follows t j (above j i b other) c)) (cases_eq j i);
    }

near_long : (near : List ℕ) (i : ℕ) (o : Option ℕ) → length (with_near near i o) ≡ length near
near_long near i None = refl
near_long near i (Some t) = cond_both (nat_lt t (length near)) (set near t i) near (λ ns. length ns ≡ length near) (λ _. length-set near t i) (λ _. refl)

-- the list, written back where it was
pub near_back : (near new rest : List ℕ) (i n : ℕ) (o : Option ℕ) → new ≡ with_near near i o → n ≡ length near → take n (new ++ rest) ≡ with_near near i o
near_back near new rest i n o is long =
    let same : n ≡ length new = long ∙ sym (near_long near i o) ∙ ap length (sym is) in
    ap (λ m. take m (new ++ rest)) same ∙ take-append_seam new rest ∙ is

-- the first place of t, as it is looked up
pub first_is : (es : List Event) (near : List ℕ) (far : List (ℕ × ℕ)) (next : List ℕ) (t n : ℕ) → AreEventLinks es near far next → n ≡ linked_place near far (length next) t → IsNextOf t es 0 n
first_is es near far next t n a is = subst (IsNextOf t es 0) (sym (is ∙ ap (λ m. linked_place near far m t) a.long)) (a.starts t)
