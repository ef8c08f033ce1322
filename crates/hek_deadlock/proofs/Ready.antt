-- Level by level, each number gets the fewest members between it and the target.
use Rattle.std.proofs.Common.{ℕ, zero, suc, ◌≡◌, ◌+◌, ◌-◌, ◌<◌, ◌≤◌, Bool, true, false, ◌&&◌, ◌||◌, cond, eqb, List, [], ◌∷◌, length, get_or, Vec, Global, Option, Some, None, refl, sym, ap, ◌∙◌, subst, inl, inr, arith, add-one}
use Rattle.std.specs.List.{list_any, All}
use Rattle.std.proofs.lemmas.Bool.{both_ways, and_parts, and_from, or_cases, or_left, or_right, eqb-true, eq-eqb}
use Rattle.std.specs.Option.{option_or}
use Rattle.hek_rules.specs.Victim.{least, leads, fewest}
use Rattle.hek_rules.specs.Listing.{is_among}
use Rattle.hek_deadlock.specs.Rows.{waits_by_rows, reaches, marked, is_unmarked}
use Rattle.std.proofs.lemmas.List.Elements.{All-nil}
use Rattle.hek_deadlock.proofs.Marks.{none_reached, marked_by_none}
use Rattle.hek_rules.proofs.Least.{IsLeast, IsLeast-least, least_none}
use Rattle.hek_rules.proofs.Leads.{Next, leads_next, leads_from}

-- the numbers that wait for the frontier are those that get level k
abbrev pub IsReady : List (Vec ℕ Global) → ℕ → ℕ → List ℕ → Type 0
IsReady rows t k frontier =
    (x : ℕ) → x < length rows → marked (reaches rows frontier x) k (fewest (waits_by_rows rows) (length rows) t k x) ≡ fewest (waits_by_rows rows) (length rows) t (k + 1) x

pub fewest-zero : (edge : ℕ → ℕ → Bool) (n t x : ℕ) → fewest edge n t 0 x ≡ None
unfolding fewest least
fewest-zero edge n t x = refl

fewest-suc : (edge : ℕ → ℕ → Bool) (n t k x : ℕ) → fewest edge n t (suc k) x ≡ option_or (fewest edge n t k x) (cond (leads edge n k x t) (Some k) None)
unfolding fewest least
fewest-suc edge n t k x = refl

or_false : (b : Bool) → (b || false) ≡ b
or_false true = refl
or_false false = refl

pub ready_first : (rows : List (Vec ℕ Global)) (t : ℕ) → IsReady rows t 0 (t ∷ [])
unfolding reaches fewest least leads
ready_first rows t x lt = ap (λ (b : Bool). marked b 0 None) (or_false (waits_by_rows rows x t))

same_bool : (a b : Bool) → (a ≡ true → b ≡ true) → (b ≡ true → a ≡ true) → a ≡ b
same_bool true b f g = sym (f refl)
same_bool false true f g = g refl
same_bool false false f g = refl

any_member : (p : ℕ → Bool) (xs : List ℕ) → list_any p xs ≡ true → (y : ℕ) × (is_among xs y ≡ true) × (p y ≡ true)
any_member p [] e = cc
any_member p (x ∷ xs) e =
    elim (or_cases (p x) (list_any p xs) e) [
      | inl here ↦ (x, or_left _ _ (same_here x), here)
      | inr later ↦ let s : (y : ℕ) × (is_among xs y ≡ true) × (p y ≡ true) = any_member p xs later in (s.0, or_right (eqb x s.0) _ s.1, s.2)
    ]
  where
    same_here : (x : ℕ) → eqb x x ≡ true
    same_here x = eq-eqb x x refl

any_from : (p : ℕ → Bool) (y : ℕ) (xs : List ℕ) → is_among xs y ≡ true → p y ≡ true → list_any p xs ≡ true
any_from p y [] e h = cc
any_from p y (x ∷ xs) e h =
    elim (or_cases (eqb x y) (is_among xs y) e) [
      | inl here ↦ (let same : x ≡ y = eqb-true x y here in or_left _ _ (subst (λ (v : ℕ). p v ≡ true) (sym same) h))
      | inr later ↦ or_right (p x) _ (any_from p y xs later h)
    ]

among_index : (y : ℕ) (xs : List ℕ) → is_among xs y ≡ true → (k : ℕ) × (k < length xs) × (get_or xs k 0 ≡ y)
among_index y [] e = cc
among_index y (x ∷ xs) e =
    elim (or_cases (eqb x y) (is_among xs y) e) [
      | inl here ↦ (0, omega arith, eqb-true x y here)
      | inr later ↦ let s : (k : ℕ) × (k < length xs) × (get_or xs k 0 ≡ y) = among_index y xs later in (suc s.0, (let lt : s.0 < length xs = s.1 in omega arith), s.2)
    ]

pub among_below : (n y : ℕ) (xs : List ℕ) → All (λ x. x < n) xs → is_among xs y ≡ true → y < n
among_below n y xs h e =
    let s : (k : ℕ) × (k < length xs) × (get_or xs k 0 ≡ y) = among_index y xs e in
    subst (λ (v : ℕ). v < n) s.2 (h s.0 0 s.1)

if_some : (b : Bool) (k : ℕ) → Some k ≡ cond b (Some k) None → b ≡ true
if_some true k e = refl
if_some false k e = cc

new_leads : (r b : Bool) (k : ℕ) (o : Option ℕ) → r ≡ true → is_unmarked o ≡ true → marked r k o ≡ option_or o (cond b (Some k) None) → b ≡ true
new_leads r b k (Some m) hit none e = cc
new_leads true b k None hit none e = if_some b k e
new_leads false b k None hit none e = cc

new_hit : (r b : Bool) (k : ℕ) (o : Option ℕ) → b ≡ true → is_unmarked o ≡ true → marked r k o ≡ option_or o (cond b (Some k) None) → r ≡ true
new_hit true b k o on none e = refl
new_hit false b k (Some m) on none e = cc
new_hit false true k None on none e = cc
new_hit false false k None on none e = cc

-- the step of the levels, in the form of the recursion
step_at : (rows : List (Vec ℕ Global)) (t k : ℕ) (frontier : List ℕ) → IsReady rows t k frontier → (x : ℕ) → x < length rows → marked (reaches rows frontier x) k (fewest (waits_by_rows rows) (length rows) t k x) ≡ option_or (fewest (waits_by_rows rows) (length rows) t k x) (cond (leads (waits_by_rows rows) (length rows) k x t) (Some k) None)
step_at rows t k frontier ready x lt =
    ready x lt ∙ ap (λ (i : ℕ). fewest (waits_by_rows rows) (length rows) t i x) (add-one k) ∙ fewest-suc (waits_by_rows rows) (length rows) t k x

-- the numbers of the next frontier
abbrev pub IsNext : List (Vec ℕ Global) → ℕ → ℕ → List ℕ → List ℕ → Type 0
IsNext rows t k frontier next =
    (x : ℕ) → x < length rows → is_among next x ≡ (reaches rows frontier x && is_unmarked (fewest (waits_by_rows rows) (length rows) t k x))

-- the frontier of level k: k members lead from each of its numbers to t, and it has each number without a lower level
pub record IsFrontier (rows : List (Vec ℕ Global)) (t k : ℕ) (next : List ℕ) : Type 0 where
  pub leads_from_here : (x : ℕ) → x < length rows → is_among next x ≡ true → leads (waits_by_rows rows) (length rows) k x t ≡ true
  pub is_here : (x : ℕ) → x < length rows → is_unmarked (fewest (waits_by_rows rows) (length rows) t k x) ≡ true → leads (waits_by_rows rows) (length rows) k x t ≡ true → is_among next x ≡ true

next_leads : (rows : List (Vec ℕ Global)) (t k : ℕ) (frontier next : List ℕ) → IsReady rows t k frontier → IsNext rows t k frontier next → (x : ℕ) → x < length rows → is_among next x ≡ true → leads (waits_by_rows rows) (length rows) k x t ≡ true
next_leads rows t k frontier next ready is x lt e =
    let parts : (reaches rows frontier x ≡ true) × (is_unmarked (fewest (waits_by_rows rows) (length rows) t k x) ≡ true) = and_parts _ _ (sym (is x lt) ∙ e) in
    new_leads (reaches rows frontier x) (leads (waits_by_rows rows) (length rows) k x t) k (fewest (waits_by_rows rows) (length rows) t k x) parts.0 parts.1 (step_at rows t k frontier ready x lt)

leads_next_in : (rows : List (Vec ℕ Global)) (t k : ℕ) (frontier next : List ℕ) → IsReady rows t k frontier → IsNext rows t k frontier next → (x : ℕ) → x < length rows → is_unmarked (fewest (waits_by_rows rows) (length rows) t k x) ≡ true → leads (waits_by_rows rows) (length rows) k x t ≡ true → is_among next x ≡ true
leads_next_in rows t k frontier next ready is x lt none on =
    is x lt ∙ and_from _ _ (new_hit (reaches rows frontier x) (leads (waits_by_rows rows) (length rows) k x t) k (fewest (waits_by_rows rows) (length rows) t k x) on none (step_at rows t k frontier ready x lt)) none

-- if no shorter walk leads from x, none leads from its next member
unmarked_on : (edge : ℕ → ℕ → Bool) (n t k x y : ℕ) → fewest edge n t (suc k) x ≡ None → y < n → edge x y ≡ true → is_unmarked (fewest edge n t k y) ≡ true
unfolding fewest
unmarked_on edge n t k x y none lt e = at (least (λ m. leads edge n m y t) k) refl
  where
    at : (o : Option ℕ) → least (λ m. leads edge n m y t) k ≡ o → is_unmarked o ≡ true
    at None is = refl
    at (Some m) is =
        let l : IsLeast (λ m. leads edge n m y t) k m = IsLeast-least (λ m. leads edge n m y t) k m is in
        let below : suc m < suc k = (let b : m < k = l.below in omega arith) in
        absurd (both_ways _ (least_none (λ m. leads edge n m x t) (suc k) none (suc m) below) (leads_from edge n m x t y lt e l.passes))

next_frontier : (rows : List (Vec ℕ Global)) (t k : ℕ) (frontier next : List ℕ) → IsReady rows t k frontier → IsNext rows t k frontier next → IsFrontier rows t k next
next_frontier rows t k frontier next ready is =
    record {
      leads_from_here = (λ x lt e. next_leads rows t k frontier next ready is x lt e);
      is_here = (λ x lt none on. leads_next_in rows t k frontier next ready is x lt none on);
    }

reaches_leads : (rows : List (Vec ℕ Global)) (t k : ℕ) (next : List ℕ) → IsFrontier rows t k next → All (λ y. y < length rows) next → (x : ℕ) → reaches rows next x ≡ true → leads (waits_by_rows rows) (length rows) (suc k) x t ≡ true
unfolding reaches
reaches_leads rows t k next is range x e =
    let s : (y : ℕ) × (is_among next y ≡ true) × (waits_by_rows rows x y ≡ true) = any_member (λ (y : ℕ). waits_by_rows rows x y) next e in
    let lt : s.0 < length rows = among_below (length rows) s.0 next range s.1 in
    leads_from (waits_by_rows rows) (length rows) k x t s.0 lt s.2 (is.leads_from_here s.0 lt s.1)

leads_reaches : (rows : List (Vec ℕ Global)) (t k : ℕ) (next : List ℕ) → IsFrontier rows t k next → (x : ℕ) → fewest (waits_by_rows rows) (length rows) t (suc k) x ≡ None → leads (waits_by_rows rows) (length rows) (suc k) x t ≡ true → reaches rows next x ≡ true
unfolding reaches
leads_reaches rows t k next is x none e =
    let s : (y : ℕ) × Next (waits_by_rows rows) (length rows) k x t y = leads_next (waits_by_rows rows) (length rows) k x t e in
    let lt : s.0 < length rows = s.1.least.below in
    any_from (λ (y : ℕ). waits_by_rows rows x y) s.0 next
    (is.is_here s.0 lt (unmarked_on (waits_by_rows rows) (length rows) t k x s.0 none lt s.1.joined) s.1.on)
    s.1.joined

-- a frontier of level k is ready for the next level
pub ready_from : (rows : List (Vec ℕ Global)) (t k : ℕ) (next : List ℕ) → IsFrontier rows t k next → All (λ y. y < length rows) next → IsReady rows t (suc k) next
ready_from rows t k next is range x lt =
    at (fewest (waits_by_rows rows) (length rows) t (suc k) x) refl
    ∙ sym (fewest-suc (waits_by_rows rows) (length rows) t (suc k) x)
    ∙ ap (λ (i : ℕ). fewest (waits_by_rows rows) (length rows) t i x) (sym (add-one (suc k)))
  where
    at : (o : Option ℕ) → fewest (waits_by_rows rows) (length rows) t (suc k) x ≡ o → marked (reaches rows next x) (suc k) (fewest (waits_by_rows rows) (length rows) t (suc k) x) ≡ option_or (fewest (waits_by_rows rows) (length rows) t (suc k) x) (cond (leads (waits_by_rows rows) (length rows) (suc k) x t) (Some (suc k)) None)
    at (Some m) some = rw some refl
    at None none =
        rw none
        (ap (λ (b : Bool). marked b (suc k) None)
        (same_bool (reaches rows next x) (leads (waits_by_rows rows) (length rows) (suc k) x t) (reaches_leads rows t k next is range x) (leads_reaches rows t k next is x none)))

pub ready_next : (rows : List (Vec ℕ Global)) (t k : ℕ) (frontier next : List ℕ) → IsReady rows t k frontier → IsNext rows t k frontier next → All (λ y. y < length rows) next → IsReady rows t (k + 1) next
ready_next rows t k frontier next ready is range =
    subst (λ (i : ℕ). IsReady rows t i next) (sym (add-one k)) (ready_from rows t k next (next_frontier rows t k frontier next ready is) range)

-- the levels after a step
pub levels_next : (rows : List (Vec ℕ Global)) (t k : ℕ) (frontier : List ℕ) (old new : Option ℕ) → IsReady rows t k frontier → (x : ℕ) → x < length rows → old ≡ fewest (waits_by_rows rows) (length rows) t k x → new ≡ marked (reaches rows frontier x) k old → new ≡ fewest (waits_by_rows rows) (length rows) t (k + 1) x
levels_next rows t k frontier old new ready x lt inv step =
    step ∙ ap (λ (o : Option ℕ). marked (reaches rows frontier x) k o) inv ∙ ready x lt

ready_empty : (rows : List (Vec ℕ Global)) (t k : ℕ) → IsReady rows t k [] → IsReady rows t (k + 1) []
ready_empty rows t k ready =
    ready_next rows t k [] [] ready
    (λ x lt. none_reached rows [] x (fewest (waits_by_rows rows) (length rows) t k x) refl)
    (All-nil (λ y. y < length rows))

-- the levels stay after an empty frontier
stays_on : (rows : List (Vec ℕ Global)) (t d k : ℕ) → IsReady rows t k [] → (x : ℕ) → x < length rows → fewest (waits_by_rows rows) (length rows) t (k + d) x ≡ fewest (waits_by_rows rows) (length rows) t k x
stays_on rows t zero k ready x lt = let same : k + 0 ≡ k = omega arith in ap (λ (i : ℕ). fewest (waits_by_rows rows) (length rows) t i x) same
stays_on rows t (suc d) k ready x lt =
    let same : k + suc d ≡ k + 1 + d = omega arith in
    ap (λ (i : ℕ). fewest (waits_by_rows rows) (length rows) t i x) same
    ∙ stays_on rows t d (k + 1) (ready_empty rows t k ready) x lt
    ∙ sym (ready x lt)
    ∙ sym (marked_by_none rows x k (fewest (waits_by_rows rows) (length rows) t k x))

pub levels_stay : (rows : List (Vec ℕ Global)) (t k n : ℕ) (frontier : List ℕ) → frontier ≡ [] → k ≤ n → IsReady rows t k frontier → (x : ℕ) → x < length rows → fewest (waits_by_rows rows) (length rows) t k x ≡ fewest (waits_by_rows rows) (length rows) t n x
levels_stay rows t k n frontier empty le ready x lt =
    let same : k + (n - k) ≡ n = omega arith in
    sym (stays_on rows t (n - k) k (subst (λ (ys : List ℕ). IsReady rows t k ys) empty ready) x lt)
    ∙ ap (λ (i : ℕ). fewest (waits_by_rows rows) (length rows) t i x) same
