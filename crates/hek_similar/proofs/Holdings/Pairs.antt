-- Lists of pairs that have the same second parts, in order, for each first part.
use Rattle.std.proofs.Common.{◌≡◌, ℕ, suc, Bool, true, false, List, [], ◌∷◌, ◌++◌, inl, inr, refl, ◌∙◌, ap, sym, subst, length, ⊎_elim}
use Rattle.std.proofs.lemmas.Bool.{cases_Bool, cond-true, cond-false, eqb-true, eq-eqb, ne_eqb, false≢true, and_right, or_left, or_right}
use Rattle.std.proofs.lemmas.List.{append-nil}
use Rattle.std.specs.Prelude.{filter, not, ◌==◌, ◌&&◌, ◌||◌, if◌then◌else◌}
use Rattle.std.specs.List.{list_any}
use Rattle.hek_rules.specs.declared.event.WriteEntry.{WriteEntry}
use Rattle.hek_rules.specs.Listing.{has, join, leave, seconds_of, firsts_of, is_among}
use Rattle.hek_rules.specs.Locks.{wait_for_holders}
use Rattle.hek_rules.specs.Table.{entries_of, without_entry, without_first}
use Rattle.hek_laws.specs.Lists.{In, Once}

-- the second parts of the pairs that begin with a, of any type
abbrev pub gathered : {X : Type 0} → List (ℕ × X) → ℕ → List X
gathered [] a = []
gathered (p ∷ ps) a = if p.0 == a then p.1 ∷ gathered ps a else gathered ps a

abbrev pub Like : {X : Type 0} → List (ℕ × X) → List (ℕ × X) → Type 0
Like ps qs = (a : ℕ) → gathered ps a ≡ gathered qs a

pub seconds-gathered : (ps : List (ℕ × ℕ)) (a : ℕ) → seconds_of ps a ≡ gathered ps a
seconds-gathered [] a = refl
seconds-gathered (p ∷ ps) a = ap (λ l. if p.0 == a then p.1 ∷ l else l) (seconds-gathered ps a)

pub entries-gathered : (ps : List (ℕ × WriteEntry)) (a : ℕ) → entries_of ps a ≡ gathered ps a
entries-gathered [] a = refl
entries-gathered (p ∷ ps) a = ap (λ l. if p.0 == a then p.1 ∷ l else l) (entries-gathered ps a)

pub like-seconds : (ps qs : List (ℕ × ℕ)) → Like ps qs → (a : ℕ) → seconds_of ps a ≡ seconds_of qs a
like-seconds ps qs l a = seconds-gathered ps a ∙ l a ∙ sym (seconds-gathered qs a)

pub like-entries : (ps qs : List (ℕ × WriteEntry)) → Like ps qs → (a : ℕ) → entries_of ps a ≡ entries_of qs a
like-entries ps qs l a = entries-gathered ps a ∙ l a ∙ sym (entries-gathered qs a)

pub seconds-like : (ps qs : List (ℕ × ℕ)) → ((a : ℕ) → seconds_of ps a ≡ seconds_of qs a) → Like ps qs
seconds-like ps qs h a = sym (seconds-gathered ps a) ∙ h a ∙ seconds-gathered qs a

pub entries-like : (ps qs : List (ℕ × WriteEntry)) → ((a : ℕ) → entries_of ps a ≡ entries_of qs a) → Like ps qs
entries-like ps qs h a = sym (entries-gathered ps a) ∙ h a ∙ entries-gathered qs a

-- ---- changes
pub gathered-append : {X : Type 0} (ps qs : List (ℕ × X)) (a : ℕ) → gathered (ps ++ qs) a ≡ gathered ps a ++ gathered qs a
gathered-append [] qs a = refl
gathered-append (p ∷ ps) qs a = ap (λ l. if p.0 == a then p.1 ∷ l else l) (gathered-append ps qs a) ∙ by (p.0 == a)
  where
    by : (b : Bool) → (if b then p.1 ∷ (gathered ps a ++ gathered qs a) else gathered ps a ++ gathered qs a) ≡ (if b then p.1 ∷ gathered ps a else gathered ps a) ++ gathered qs a
    by true = refl
    by false = refl

pub like-append : {X : Type 0} (ps qs rs : List (ℕ × X)) → Like ps qs → Like (ps ++ rs) (qs ++ rs)
like-append ps qs rs l a = gathered-append ps rs a ∙ ap (λ k. k ++ gathered rs a) (l a) ∙ sym (gathered-append qs rs a)

gathered-filter : {X : Type 0} (test : ℕ → X → Bool) (ps : List (ℕ × X)) (a : ℕ) → gathered (filter (λ p. test p.0 p.1) ps) a ≡ filter (test a) (gathered ps a)
gathered-filter test [] a = refl
gathered-filter test (p ∷ ps) a =
    let rest = gathered-filter test ps a in
    ⊎_elim
    (λ same.
    let e : p.0 ≡ a = eqb-true _ _ same in
    by_test (test p.0 p.1) (test a p.1) (ap (λ n. test n p.1) e) same rest
    ∙ ap (filter (test a)) (sym (cond-true (p.0 == a) (p.1 ∷ gathered ps a) (gathered ps a) same)))
    (λ other. skipped (test p.0 p.1) other rest ∙ ap (filter (test a)) (sym (cond-false (p.0 == a) (p.1 ∷ gathered ps a) (gathered ps a) other)))
    (cases_Bool (p.0 == a))
  where
    by_test : (b c : Bool) → b ≡ c → (p.0 == a) ≡ true → gathered (filter (λ p. test p.0 p.1) ps) a ≡ filter (test a) (gathered ps a) →
        gathered (if b then p ∷ filter (λ p. test p.0 p.1) ps else filter (λ p. test p.0 p.1) ps) a ≡ (if c then p.1 ∷ filter (test a) (gathered ps a) else filter (test a) (gathered ps a))
    by_test true true e same rest = cond-true (p.0 == a) _ _ same ∙ ap (λ l. p.1 ∷ l) rest
    by_test true false e same rest = cc
    by_test false true e same rest = cc
    by_test false false e same rest = rest

    skipped : (b : Bool) → (p.0 == a) ≡ false → gathered (filter (λ p. test p.0 p.1) ps) a ≡ filter (test a) (gathered ps a) →
        gathered (if b then p ∷ filter (λ p. test p.0 p.1) ps else filter (λ p. test p.0 p.1) ps) a ≡ filter (test a) (gathered ps a)
    skipped true other rest = cond-false (p.0 == a) _ _ other ∙ rest
    skipped false other rest = rest

pub like-filter : {X : Type 0} (test : ℕ → X → Bool) (ps qs : List (ℕ × X)) → Like ps qs → Like (filter (λ p. test p.0 p.1) ps) (filter (λ p. test p.0 p.1) qs)
like-filter test ps qs l a = gathered-filter test ps a ∙ ap (filter (test a)) (l a) ∙ sym (gathered-filter test qs a)

pub like-leave : (ps qs : List (ℕ × ℕ)) (a b : ℕ) → Like ps qs → Like (leave ps a b) (leave qs a b)
like-leave ps qs a b l = like-filter (λ x y. not (x == a && y == b)) ps qs l

pub like-without_first : (t : ℕ) (ps qs : List (ℕ × ℕ)) → Like ps qs → Like (without_first t ps) (without_first t qs)
like-without_first t ps qs l = like-filter (λ x y. not (x == t)) ps qs l

-- whether some pair that begins with a passes
pub any-seconds : (a : ℕ) (test : ℕ → Bool) (ps : List (ℕ × ℕ)) → list_any (λ p. p.0 == a && test p.1) ps ≡ list_any test (gathered ps a)
any-seconds a test [] = refl
any-seconds a test (p ∷ ps) = ap (λ b. (p.0 == a && test p.1) || b) (any-seconds a test ps) ∙ by (p.0 == a)
  where
    by : (b : Bool) → ((b && test p.1) || list_any test (gathered ps a)) ≡ list_any test (if b then p.1 ∷ gathered ps a else gathered ps a)
    by true = refl
    by false = refl

pub like-has : (ps qs : List (ℕ × ℕ)) → Like ps qs → (a b : ℕ) → has ps a b ≡ has qs a b
like-has ps qs l a b = any-seconds a (λ y. y == b) ps ∙ ap (list_any (λ y. y == b)) (l a) ∙ sym (any-seconds a (λ y. y == b) qs)

pub like-join : (ps qs : List (ℕ × ℕ)) (a b : ℕ) → Like ps qs → Like (join ps a b) (join qs a b)
like-join ps qs a b l c =
    ap (λ h. gathered (if h then ps else ps ++ (a, b) ∷ []) c) (like-has ps qs l a b) ∙ by (has qs a b)
  where
    by : (h : Bool) → gathered (if h then ps else ps ++ (a, b) ∷ []) c ≡ gathered (if h then qs else qs ++ (a, b) ∷ []) c
    by true = l c
    by false = like-append ps qs ((a, b) ∷ []) l c

rest_of : {X : Type 0} → List X → List X
rest_of [] = []
rest_of (x ∷ xs) = xs

gathered-without : (ps : List (ℕ × WriteEntry)) (t a : ℕ) → gathered (without_entry ps t) a ≡ (if t == a then rest_of (gathered ps a) else gathered ps a)
unfolding rest_of
gathered-without [] t a = by (t == a)
  where
    by : (b : Bool) → ◌≡◌ {A = List WriteEntry} [] (if b then [] else [])
    by true = refl
    by false = refl
gathered-without (p ∷ ps) t a =
    ⊎_elim
    (λ mine. ap (λ l. gathered l a) (cond-true (p.0 == t) ps (p ∷ without_entry ps t) mine) ∙ first (eqb-true _ _ mine))
    (λ other. ap (λ l. gathered l a) (cond-false (p.0 == t) ps (p ∷ without_entry ps t) other)
    ∙ ap (λ l. if p.0 == a then p.1 ∷ l else l) (gathered-without ps t a) ∙ later (λ e. false≢true (sym other ∙ eq-eqb _ _ e)))
    (cases_Bool (p.0 == t))
  where
    first : p.0 ≡ t → gathered ps a ≡ (if t == a then rest_of (if p.0 == a then p.1 ∷ gathered ps a else gathered ps a) else (if p.0 == a then p.1 ∷ gathered ps a else gathered ps a))
    first e = by (p.0 == a) (t == a) (ap (λ n. n == a) e)
      where
        by : (b c : Bool) → b ≡ c → gathered ps a ≡ (if c then rest_of (if b then p.1 ∷ gathered ps a else gathered ps a) else (if b then p.1 ∷ gathered ps a else gathered ps a))
        by true true e = refl
        by true false e = cc
        by false true e = cc
        by false false e = refl

    later : (p.0 ≡ t → ⊥) → (if p.0 == a then p.1 ∷ (if t == a then rest_of (gathered ps a) else gathered ps a) else (if t == a then rest_of (gathered ps a) else gathered ps a)) ≡ (if t == a then rest_of (if p.0 == a then p.1 ∷ gathered ps a else gathered ps a) else (if p.0 == a then p.1 ∷ gathered ps a else gathered ps a))
    later n = by (p.0 == a) (t == a) (λ x y. n (eqb-true _ _ x ∙ sym (eqb-true _ _ y)))
      where
        by : (b c : Bool) → (b ≡ true → c ≡ true → ⊥) → (if b then p.1 ∷ (if c then rest_of (gathered ps a) else gathered ps a) else (if c then rest_of (gathered ps a) else gathered ps a)) ≡ (if c then rest_of (if b then p.1 ∷ gathered ps a else gathered ps a) else (if b then p.1 ∷ gathered ps a else gathered ps a))
        by true true n = absurd (n refl refl)
        by true false n = refl
        by false true n = refl
        by false false n = refl

pub like-without_entry : (ps qs : List (ℕ × WriteEntry)) (t : ℕ) → Like ps qs → Like (without_entry ps t) (without_entry qs t)
like-without_entry ps qs t l a = gathered-without ps t a ∙ ap (λ k. if t == a then rest_of k else k) (l a) ∙ sym (gathered-without qs t a)

-- ---- how many pairs end with b
-- the list without the first pair that begins with a
dropped : ℕ → List (ℕ × ℕ) → List (ℕ × ℕ)
dropped a [] = []
dropped a (p ∷ ps) = if p.0 == a then ps else p ∷ dropped a ps

gathered-dropped : (a b : ℕ) (bs : List ℕ) (qs : List (ℕ × ℕ)) → gathered qs a ≡ b ∷ bs → (c : ℕ) → gathered ((a, b) ∷ dropped a qs) c ≡ gathered qs c
unfolding dropped
gathered-dropped a b bs [] e c = cc
gathered-dropped a b bs (q ∷ qs) e c =
    ⊎_elim
    (λ mine.
    let here : q.1 ∷ gathered qs a ≡ b ∷ bs = sym (cond-true (q.0 == a) (q.1 ∷ gathered qs a) (gathered qs a) mine) ∙ e in
    let same : q.1 ≡ b = cc in
    ap (λ l. gathered ((a, b) ∷ l) c) (cond-true (q.0 == a) qs (q ∷ dropped a qs) mine)
    ∙ ap (λ n. if n == c then b ∷ gathered qs c else gathered qs c) (sym (eqb-true _ _ mine))
    ∙ ap (λ n. if q.0 == c then n ∷ gathered qs c else gathered qs c) (sym same))
    (λ other.
    let here : gathered qs a ≡ b ∷ bs = sym (cond-false (q.0 == a) (q.1 ∷ gathered qs a) (gathered qs a) other) ∙ e in
    let rest : gathered ((a, b) ∷ dropped a qs) c ≡ gathered qs c = gathered-dropped a b bs qs here c in
    ap (λ l. gathered ((a, b) ∷ l) c) (cond-false (q.0 == a) qs (q ∷ dropped a qs) other)
    ∙ swapped (a == c) (q.0 == c) (λ x y. false≢true (sym other ∙ eq-eqb _ _ (eqb-true _ _ y ∙ sym (eqb-true _ _ x)))) (gathered (dropped a qs) c)
    ∙ ap (λ l. if q.0 == c then q.1 ∷ l else l) rest)
    (cases_Bool (q.0 == a))
  where
    swapped : (x y : Bool) → (x ≡ true → y ≡ true → ⊥) → (l : List ℕ) → (if x then b ∷ (if y then q.1 ∷ l else l) else (if y then q.1 ∷ l else l)) ≡ (if y then q.1 ∷ (if x then b ∷ l else l) else (if x then b ∷ l else l))
    swapped true true n l = absurd (n refl refl)
    swapped true false n l = refl
    swapped false true n l = refl
    swapped false false n l = refl

count-dropped : (a b : ℕ) (bs : List ℕ) (qs : List (ℕ × ℕ)) → gathered qs a ≡ b ∷ bs → (k : ℕ) → length (firsts_of ((a, b) ∷ dropped a qs) k) ≡ length (firsts_of qs k)
unfolding dropped
count-dropped a b bs [] e k = cc
count-dropped a b bs (q ∷ qs) e k =
    ⊎_elim
    (λ mine.
    let here : q.1 ∷ gathered qs a ≡ b ∷ bs = sym (cond-true (q.0 == a) (q.1 ∷ gathered qs a) (gathered qs a) mine) ∙ e in
    let same : q.1 ≡ b = cc in
    ap (λ l. length (firsts_of ((a, b) ∷ l) k)) (cond-true (q.0 == a) qs (q ∷ dropped a qs) mine)
    ∙ ap (λ n. length (if n == k then a ∷ firsts_of qs k else firsts_of qs k)) (sym same)
    ∙ counted (q.1 == k) (firsts_of qs k))
    (λ other.
    let here : gathered qs a ≡ b ∷ bs = sym (cond-false (q.0 == a) (q.1 ∷ gathered qs a) (gathered qs a) other) ∙ e in
    let rest : length (firsts_of ((a, b) ∷ dropped a qs) k) ≡ length (firsts_of qs k) = count-dropped a b bs qs here k in
    ap (λ l. length (firsts_of ((a, b) ∷ l) k)) (cond-false (q.0 == a) qs (q ∷ dropped a qs) other)
    ∙ swapped (b == k) (q.1 == k) (firsts_of (dropped a qs) k)
    ∙ more (q.1 == k) (firsts_of ((a, b) ∷ dropped a qs) k) (firsts_of qs k) rest)
    (cases_Bool (q.0 == a))
  where
    counted : (x : Bool) (l : List ℕ) → length (if x then a ∷ l else l) ≡ length (if x then q.0 ∷ l else l)
    counted true l = refl
    counted false l = refl

    swapped : (x y : Bool) (l : List ℕ) → length (if x then a ∷ (if y then q.0 ∷ l else l) else (if y then q.0 ∷ l else l)) ≡ length (if y then q.0 ∷ (if x then a ∷ l else l) else (if x then a ∷ l else l))
    swapped true true l = refl
    swapped true false l = refl
    swapped false true l = refl
    swapped false false l = refl

    more : (y : Bool) (l m : List ℕ) → length l ≡ length m → length (if y then q.0 ∷ l else l) ≡ length (if y then q.0 ∷ m else m)
    more true l m e = ap suc e
    more false l m e = e

pub like-count : (ps qs : List (ℕ × ℕ)) → Like ps qs → (k : ℕ) → length (firsts_of ps k) ≡ length (firsts_of qs k)
like-count [] [] l k = refl
like-count [] (q ∷ qs) l k =
    let e : ◌≡◌ {A = List ℕ} [] (q.1 ∷ gathered qs q.0) = l q.0 ∙ cond-true (q.0 == q.0) (q.1 ∷ gathered qs q.0) (gathered qs q.0) (eq-eqb _ _ refl) in cc
like-count (p ∷ ps) qs l k =
    let here : gathered qs p.0 ≡ p.1 ∷ gathered ps p.0 = sym (l p.0) ∙ cond-true (p.0 == p.0) (p.1 ∷ gathered ps p.0) (gathered ps p.0) (eq-eqb _ _ refl) in
    let rest : Like ps (dropped p.0 qs) = λ c. cut (p.0 == c) (gathered ps c) (gathered (dropped p.0 qs) c) (l c ∙ sym (gathered-dropped p.0 p.1 (gathered ps p.0) qs here c)) in
    more (p.1 == k) (firsts_of ps k) (firsts_of (dropped p.0 qs) k) (like-count ps (dropped p.0 qs) rest k)
    ∙ count-dropped p.0 p.1 (gathered ps p.0) qs here k
  where
    cut : (x : Bool) (l m : List ℕ) → (if x then p.1 ∷ l else l) ≡ (if x then p.1 ∷ m else m) → l ≡ m
    cut true l m e = cc
    cut false l m e = e

    more : (y : Bool) (l m : List ℕ) → length l ≡ length m → length (if y then p.0 ∷ l else l) ≡ length (if y then p.0 ∷ m else m)
    more true l m e = ap suc e
    more false l m e = e

-- ---- waiting lists
pub among-firsts : (ps : List (ℕ × ℕ)) (a b : ℕ) → is_among (firsts_of ps b) a ≡ has ps a b
among-firsts [] a b = refl
among-firsts (p ∷ ps) a b = by (p.0 == a) (p.1 == b) (among-firsts ps a b)
  where
    by : (x y : Bool) → is_among (firsts_of ps b) a ≡ has ps a b → list_any (λ (m : ℕ). m == a) (if y then p.0 ∷ firsts_of ps b else firsts_of ps b) ≡ ((p.0 == a && y) || has ps a b)
    by x true e = inner (p.0 == a) e
      where
        inner : (z : Bool) → is_among (firsts_of ps b) a ≡ has ps a b → (z || is_among (firsts_of ps b) a) ≡ ((z && true) || has ps a b)
        inner true e = refl
        inner false e = e
    by x false e = inner (p.0 == a) e
      where
        inner : (z : Bool) → is_among (firsts_of ps b) a ≡ has ps a b → is_among (firsts_of ps b) a ≡ ((z && false) || has ps a b)
        inner true e = e
        inner false e = e

-- a list with t at its end, if it is to be there and isn't in the list yet
abbrev extended : ℕ → Bool → List ℕ → List ℕ
extended t b l = if b && not (list_any (λ y. y == t) l) then l ++ t ∷ [] else l

extended-in : (t : ℕ) (b : Bool) (l : List ℕ) → list_any (λ y. y == t) l ≡ true → extended t b l ≡ l
extended-in t b l y = cond-false (b && not (list_any (λ z. z == t) l)) (l ++ t ∷ []) l (and_right b _ (ap not y))

extended-out : (t : ℕ) (l : List ℕ) → list_any (λ y. y == t) l ≡ false → extended t true l ≡ l ++ t ∷ []
extended-out t l n = cond-true (true && not (list_any (λ z. z == t) l)) (l ++ t ∷ []) l (ap not n)

in-extended : (t : ℕ) (l : List ℕ) → list_any (λ y. y == t) (l ++ t ∷ []) ≡ true
in-extended t [] = or_left (t == t) false (eq-eqb t t refl)
in-extended t (x ∷ xs) = or_right (x == t) _ (in-extended t xs)

extended-twice : (t : ℕ) (b c : Bool) (l : List ℕ) → extended t b (extended t c l) ≡ extended t (b || c) l
extended-twice t b false l = ap (λ d. extended t d l) (sym (or-false b))
  where
    or-false : (b : Bool) → (b || false) ≡ b
    or-false true = refl
    or-false false = refl
extended-twice t b true l =
    ⊎_elim
    (λ y. ap (extended t b) (extended-in t true l y) ∙ extended-in t b l y ∙ sym (extended-in t (b || true) l y))
    (λ n. ap (extended t b) (extended-out t l n) ∙ extended-in t b (l ++ t ∷ []) (in-extended t l) ∙ sym (ap (λ d. extended t d l) (or-true b) ∙ extended-out t l n))
    (cases_Bool (list_any (λ y. y == t) l))
  where
    or-true : (b : Bool) → (b || true) ≡ true
    or-true true = refl
    or-true false = refl

-- the list of a, after t joined that of h
gathered-join : (ps : List (ℕ × ℕ)) (h t a : ℕ) → gathered (join ps h t) a ≡ extended t (h == a) (gathered ps a)
gathered-join ps h t a =
    ⊎_elim
    (λ same.
    let e : h ≡ a = eqb-true _ _ same in
    ap (λ n. gathered (join ps n t) a) e ∙ held (has ps a t) ∙ ap (λ b. if not b then gathered ps a ++ t ∷ [] else gathered ps a) (any-seconds a (λ y. y == t) ps)
    ∙ ap (λ b. extended t b (gathered ps a)) (sym same))
    (λ other. apart (has ps h t) other ∙ ap (λ b. extended t b (gathered ps a)) (sym other))
    (cases_Bool (h == a))
  where
    held : (b : Bool) → gathered (if b then ps else ps ++ (a, t) ∷ []) a ≡ (if not b then gathered ps a ++ t ∷ [] else gathered ps a)
    held true = refl
    held false = gathered-append ps ((a, t) ∷ []) a ∙ ap (λ l. gathered ps a ++ l) (cond-true (a == a) (t ∷ []) [] (eq-eqb _ _ refl))

    apart : (b : Bool) → (h == a) ≡ false → gathered (if b then ps else ps ++ (h, t) ∷ []) a ≡ gathered ps a
    apart true o = refl
    apart false o = gathered-append ps ((h, t) ∷ []) a ∙ ap (λ l. gathered ps a ++ l) (cond-false (h == a) (t ∷ []) [] o) ∙ append-nil (gathered ps a)

gathered-wait : (hs : List ℕ) (t : ℕ) (ps : List (ℕ × ℕ)) (a : ℕ) → gathered (wait_for_holders hs t ps) a ≡ extended t (is_among hs a && not (a == t)) (gathered ps a)
gathered-wait [] t ps a = refl
gathered-wait (h ∷ hs) t ps a =
    ⊎_elim
    (λ own.
    ap (λ l. gathered l a) (cond-true (h == t) (wait_for_holders hs t ps) (wait_for_holders hs t (join ps h t)) own)
    ∙ gathered-wait hs t ps a
    ∙ ap (λ b. extended t b (gathered ps a)) (mine (h == a) (is_among hs a) (a == t) (λ y. eq-eqb a t (sym (eqb-true _ _ y) ∙ eqb-true _ _ own))))
    (λ other.
    ap (λ l. gathered l a) (cond-false (h == t) (wait_for_holders hs t ps) (wait_for_holders hs t (join ps h t)) other)
    ∙ gathered-wait hs t (join ps h t) a
    ∙ ap (extended t (is_among hs a && not (a == t))) (gathered-join ps h t a)
    ∙ extended-twice t (is_among hs a && not (a == t)) (h == a) (gathered ps a)
    ∙ ap (λ b. extended t b (gathered ps a)) (theirs (h == a) (is_among hs a) (a == t) (λ y. ne_eqb a t (λ e. false≢true (sym other ∙ eq-eqb h t (eqb-true _ _ y ∙ e))))))
    (cases_Bool (h == t))
  where
    mine : (x y z : Bool) → (x ≡ true → z ≡ true) → (y && not z) ≡ ((x || y) && not z)
    mine true y true h = and_right y false refl ∙ refl
    mine true y false h = absurd (false≢true (h refl))
    mine false y z h = refl

    theirs : (x y z : Bool) → (x ≡ true → z ≡ false) → ((y && not z) || x) ≡ ((x || y) && not z)
    theirs true y true h = absurd (false≢true (sym (h refl)))
    theirs true true false h = refl
    theirs true false false h = refl
    theirs false true true h = refl
    theirs false true false h = refl
    theirs false false z h = refl

-- one list is like another after t joined the waiting lists of the same holders
pub like-wait : (hs ks : List ℕ) (t : ℕ) (ps qs : List (ℕ × ℕ)) → ((a : ℕ) → is_among hs a ≡ is_among ks a) → Like ps qs → Like (wait_for_holders hs t ps) (wait_for_holders ks t qs)
like-wait hs ks t ps qs same l a =
    gathered-wait hs t ps a
    ∙ ap (λ b. extended t (b && not (a == t)) (gathered ps a)) (same a)
    ∙ ap (extended t (is_among ks a && not (a == t))) (l a)
    ∙ sym (gathered-wait ks t qs a)

-- ---- each pair once
In-gathered : {X : Type 0} (ps : List (ℕ × X)) (a : ℕ) (x : X) → In (a, x) ps → In x (gathered ps a)
In-gathered [] a x i = absurd i
In-gathered {X = X} (p ∷ ps) a x i =
    ⊎_elim
    (λ e. subst (In x) (sym (cond-true (p.0 == a) (p.1 ∷ gathered ps a) (gathered ps a) (eq-eqb _ _ (ap (λ (q : ℕ × X). q.0) (sym e))))) (inl (ap (λ (q : ℕ × X). q.1) e)))
    (λ j.
    let k : In x (gathered ps a) = In-gathered ps a x j in
    ⊎_elim
    (λ y. subst (In x) (sym (cond-true (p.0 == a) (p.1 ∷ gathered ps a) (gathered ps a) y)) (inr k))
    (λ n. subst (In x) (sym (cond-false (p.0 == a) (p.1 ∷ gathered ps a) (gathered ps a) n)) k)
    (cases_Bool (p.0 == a)))
    i

gathered-In : {X : Type 0} (ps : List (ℕ × X)) (a : ℕ) (x : X) → In x (gathered ps a) → In (a, x) ps
gathered-In [] a x i = absurd i
gathered-In {X = X} (p ∷ ps) a x i =
    ⊎_elim
    (λ y.
    ⊎_elim
    (λ e. inl (ap (λ n. (n, x)) (sym (eqb-true _ _ y)) ∙ ap {A = X} {B = ℕ × X} (λ z. (p.0, z)) e))
    (λ j. inr (gathered-In ps a x j))
    (subst (In x) (cond-true (p.0 == a) (p.1 ∷ gathered ps a) (gathered ps a) y) i))
    (λ n. inr (gathered-In ps a x (subst (In x) (cond-false (p.0 == a) (p.1 ∷ gathered ps a) (gathered ps a) n) i)))
    (cases_Bool (p.0 == a))

pub like-In : {X : Type 0} (ps qs : List (ℕ × X)) → Like ps qs → (a : ℕ) (x : X) → In (a, x) ps → In (a, x) qs
like-In ps qs l a x i = gathered-In qs a x (subst (In x) (l a) (In-gathered ps a x i))

once-gathered : {X : Type 0} (ps : List (ℕ × X)) → Once ps → (a : ℕ) → Once (gathered ps a)
once-gathered [] o a = tt
once-gathered (p ∷ ps) o a =
    ⊎_elim
    (λ y. subst Once (sym (cond-true (p.0 == a) (p.1 ∷ gathered ps a) (gathered ps a) y))
    (λ i. o.0 (subst (λ n. In (n, p.1) ps) (sym (eqb-true _ _ y)) (gathered-In ps a p.1 i)), once-gathered ps o.1 a))
    (λ n. subst Once (sym (cond-false (p.0 == a) (p.1 ∷ gathered ps a) (gathered ps a) n)) (once-gathered ps o.1 a))
    (cases_Bool (p.0 == a))

gathered-once : {X : Type 0} (ps : List (ℕ × X)) → ((a : ℕ) → Once (gathered ps a)) → Once ps
gathered-once [] h = tt
gathered-once (p ∷ ps) h =
    let here : Once (p.1 ∷ gathered ps p.0) = subst Once (cond-true (p.0 == p.0) (p.1 ∷ gathered ps p.0) (gathered ps p.0) (eq-eqb _ _ refl)) (h p.0) in (
      λ i. here.0 (In-gathered ps p.0 p.1 i),
      gathered-once ps (λ a. ⊎_elim
          (λ y. let k : Once (p.1 ∷ gathered ps a) = subst Once (cond-true (p.0 == a) (p.1 ∷ gathered ps a) (gathered ps a) y) (h a) in k.1)
          (λ n. subst Once (cond-false (p.0 == a) (p.1 ∷ gathered ps a) (gathered ps a) n) (h a))
          (cases_Bool (p.0 == a))),
    )

pub like-once : {X : Type 0} (ps qs : List (ℕ × X)) → Like ps qs → Once ps → Once qs
like-once ps qs l o = gathered-once qs (λ a. subst Once (l a) (once-gathered ps o a))
