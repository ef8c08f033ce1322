-- Lists of numbers that rise, lists without a repeated number, and the places of the versions that pass a test.
use Rattle.std.proofs.Common.{◌≡◌, ℕ, zero, suc, ◌+◌, ◌<◌, ◌≤◌, Bool, true, List, [], ◌∷◌, inl, inr, refl, ◌∙◌, ap, sym, subst, length, arith, ⊎_elim}
use Rattle.std.proofs.lemmas.Bool.{cases_Bool, cond-true, cond-false, eq-eqb, ne_eqb, false≢true}
use Rattle.std.specs.Prelude.{map, filter, not, ◌==◌}
use Rattle.hek_rules.specs.World.{Version, version_in, places}
use Rattle.hek_laws.specs.Lists.{In, Once}

-- ---- rising numbers
-- each number is above k
abbrev pub AreOver : ℕ → List ℕ → Type 0
AreOver k [] = Unit {0}
AreOver k (x ∷ xs) = (k < x) × AreOver k xs

-- each number is above those before it
abbrev pub Rises : List ℕ → Type 0
Rises [] = Unit {0}
Rises (x ∷ xs) = AreOver x xs × Rises xs

over-In : (k : ℕ) (xs : List ℕ) → AreOver k xs → (x : ℕ) → In x xs → k < x
over-In k [] o x i = absurd i
over-In k (y ∷ ys) o x i = ⊎_elim (λ e. subst (λ n. k < n) (sym e) o.0) (λ j. over-In k ys o.1 x j) i

over-from : (k : ℕ) (xs : List ℕ) → ((x : ℕ) → In x xs → k < x) → AreOver k xs
over-from k [] h = tt
over-from k (y ∷ ys) h = (h y (inl refl), over-from k ys (λ x i. h x (inr i)))

pub rises-once : (xs : List ℕ) → Rises xs → Once xs
rises-once [] r = tt
rises-once (x ∷ xs) r = (λ i. let l : x < x = over-In x xs r.0 x i in absurd (omega arith), rises-once xs r.1)

-- rising lists with the same members are equal
pub same_rising : (xs ys : List ℕ) → Rises xs → Rises ys → ((x : ℕ) → In x xs → In x ys) → ((x : ℕ) → In x ys → In x xs) → xs ≡ ys
same_rising [] [] a b h k = refl
same_rising [] (y ∷ ys) a b h k = absurd (k y (inl refl))
same_rising (x ∷ xs) [] a b h k = absurd (h x (inl refl))
same_rising (x ∷ xs) (y ∷ ys) a b h k =
    let e : x ≡ y = ⊎_elim (λ e. e)
    (λ i. ⊎_elim (λ e. sym e) (λ j. let l : y < x = over-In y ys b.0 x i in let m : x < y = over-In x xs a.0 y j in absurd (omega arith)) (k y (inl refl)))
    (h x (inl refl)) in
    let rest : xs ≡ ys = same_rising xs ys a.1 b.1
    (λ z i. let l : x < z = over-In x xs a.0 z i in ⊎_elim (λ q. absurd (omega arith)) (λ j. j) (h z (inr i)))
    (λ z i. let l : y < z = over-In y ys b.0 z i in ⊎_elim (λ q. absurd (omega arith)) (λ j. j) (k z (inr i))) in
    ap (λ n. n ∷ xs) e ∙ ap (λ l. y ∷ l) rest

-- ---- members of a mapped list
pub In-map : {X Y : Type 0} (f : X → Y) (xs : List X) (x : X) → In x xs → In (f x) (map f xs)
In-map f [] x i = absurd i
In-map f (y ∷ ys) x i = ⊎_elim (λ e. inl (ap f e)) (λ j. inr (In-map f ys x j)) i

pub map-In : {X Y : Type 0} (f : X → Y) (xs : List X) (y : Y) → In y (map f xs) → (x : X) × (y ≡ f x) × In x xs
map-In f [] y i = absurd i
map-In f (x ∷ xs) y i = ⊎_elim (λ e. (x, e, inl refl)) (λ j. let r = map-In f xs y j in (r.0, r.1, inr r.2)) i

-- a function that rises on the members keeps the list rising
pub rises-map : (f : ℕ → ℕ) (xs : List ℕ) → Rises xs → ((a b : ℕ) → In a xs → In b xs → a < b → f a < f b) → Rises (map f xs)
rises-map f [] r h = tt
rises-map f (x ∷ xs) r h = (
  over-from (f x) (map f xs) (λ y i. let m = map-In f xs y i in subst (λ n. f x < n) (sym m.1) (h x m.0 (inl refl) (inr m.2) (over-In x xs r.0 m.0 m.2))),
  rises-map f xs r.1 (λ a b i j l. h a b (inr i) (inr j) l),
)

-- a function that keeps the members apart keeps each once
pub once-map : {X Y : Type 0} (f : X → Y) (xs : List X) → ((a b : X) → f a ≡ f b → a ≡ b) → Once xs → Once (map f xs)
once-map f [] apart o = tt
once-map f (x ∷ xs) apart o =
    (λ i. let m = map-In f xs (f x) i in o.0 (subst (λ y. In y xs) (sym (apart x m.0 m.1)) m.2), once-map f xs apart o.1)

-- ---- how many
others : ℕ → List ℕ → List ℕ
others x = filter (λ (y : ℕ). not (y == x))

others-shorter : (x : ℕ) (xs : List ℕ) → length (others x xs) ≤ length xs
unfolding others
others-shorter x [] = omega arith
others-shorter x (y ∷ ys) =
    let rest = others-shorter x ys in
    ⊎_elim
    (λ same. let gone = ap length (cond-false (not (y == x)) (y ∷ others x ys) (others x ys) (ap not same)) in omega (arith, gone, rest))
    (λ other. let kept = ap length (cond-true (not (y == x)) (y ∷ others x ys) (others x ys) (ap not other)) in omega (arith, kept, rest))
    (cases_Bool (y == x))

others-fewer : (x : ℕ) (xs : List ℕ) → In x xs → length (others x xs) < length xs
unfolding others
others-fewer x [] i = absurd i
others-fewer x (y ∷ ys) i =
    ⊎_elim
    (λ same. let gone = ap length (cond-false (not (y == x)) (y ∷ others x ys) (others x ys) (ap not same)) in let rest = others-shorter x ys in omega (arith, gone, rest))
    (λ other.
    let kept = ap length (cond-true (not (y == x)) (y ∷ others x ys) (others x ys) (ap not other)) in
    let rest = others-fewer x ys (⊎_elim (λ e. absurd (false≢true (sym other ∙ eq-eqb y x (sym e)))) (λ j. j) i) in
    omega (arith, kept, rest))
    (cases_Bool (y == x))

others-In : (x : ℕ) (xs : List ℕ) (y : ℕ) → In y xs → (y ≡ x → ⊥) → In y (others x xs)
unfolding others
others-In x [] y i n = absurd i
others-In x (z ∷ zs) y i n =
    ⊎_elim
    (λ e. subst (In y) (sym (cond-true (not (z == x)) (z ∷ others x zs) (others x zs) (ap not (ne_eqb z x (λ q. n (e ∙ q)))))) (inl e))
    (λ j.
    let k : In y (others x zs) = others-In x zs y j n in
    ⊎_elim
    (λ same. subst (In y) (sym (cond-false (not (z == x)) (z ∷ others x zs) (others x zs) (ap not same))) k)
    (λ other. subst (In y) (sym (cond-true (not (z == x)) (z ∷ others x zs) (others x zs) (ap not other))) (inr k))
    (cases_Bool (z == x)))
    i

-- a list without a repeated number is no longer than a list that has all of its members
pub no_longer : (xs ys : List ℕ) → Once xs → ((x : ℕ) → In x xs → In x ys) → length xs ≤ length ys
no_longer [] ys o h = omega arith
no_longer (x ∷ xs) ys o h =
    let rest : length xs ≤ length (others x ys) = no_longer xs (others x ys) o.1 (λ y i. others-In x ys y (h y (inr i)) (λ e. o.0 (subst (λ n. In n xs) e i))) in
    let one : length (others x ys) < length ys = others-fewer x ys (h x (inl refl)) in
    omega arith

-- ---- places
places-In : (test : ℕ → Version → Bool) (i : ℕ) (vs : List Version) (k : ℕ) → In k (places test i vs) → (j : ℕ) × (k ≡ i + j) × (j < length vs) × (test k (version_in vs j) ≡ true)
places-In test i [] k h = absurd h
places-In test i (x ∷ xs) k h =
    let later : In k (places test (i + 1) xs) → (j : ℕ) × (k ≡ i + j) × (j < length (x ∷ xs)) × (test k (version_in (x ∷ xs) j) ≡ true)
    = λ m. let r = places-In test (i + 1) xs k m in let e = r.1 in let l = r.2 in (suc r.0, omega (arith, e), omega (arith, l), r.3) in
    ⊎_elim
    (λ y. ⊎_elim (λ e. (0, omega (arith, e), omega arith, ap (λ n. test n x) e ∙ y)) later (subst (In k) (cond-true (test i x) (i ∷ places test (i + 1) xs) (places test (i + 1) xs) y) h))
    (λ n. later (subst (In k) (cond-false (test i x) (i ∷ places test (i + 1) xs) (places test (i + 1) xs) n) h))
    (cases_Bool (test i x))

In-places : (test : ℕ → Version → Bool) (i : ℕ) (vs : List Version) (j : ℕ) → j < length vs → test (i + j) (version_in vs j) ≡ true → In (i + j) (places test i vs)
In-places test i [] j l y = absurd (omega arith)
In-places test i (x ∷ xs) zero l y =
    let e : i + 0 ≡ i = omega arith in
    let here : test i x ≡ true = ap (λ n. test n x) (sym e) ∙ y in
    subst (In (i + 0)) (sym (cond-true (test i x) (i ∷ places test (i + 1) xs) (places test (i + 1) xs) here)) (inl e)
In-places test i (x ∷ xs) (suc j) l y =
    let e : i + 1 + j ≡ i + suc j = omega arith in
    let more : In (i + suc j) (places test (i + 1) xs) = subst (λ n. In n (places test (i + 1) xs)) e (In-places test (i + 1) xs j (omega arith) (ap (λ n. test n (version_in xs j)) e ∙ y)) in
    ⊎_elim
    (λ t. subst (In (i + suc j)) (sym (cond-true (test i x) (i ∷ places test (i + 1) xs) (places test (i + 1) xs) t)) (inr more))
    (λ f. subst (In (i + suc j)) (sym (cond-false (test i x) (i ∷ places test (i + 1) xs) (places test (i + 1) xs) f)) more)
    (cases_Bool (test i x))

pub places-rise : (test : ℕ → Version → Bool) (i : ℕ) (vs : List Version) → Rises (places test i vs)
places-rise test i [] = tt
places-rise test i (x ∷ xs) =
    ⊎_elim
    (λ y. subst Rises (sym (cond-true (test i x) (i ∷ places test (i + 1) xs) (places test (i + 1) xs) y))
    (over-from i (places test (i + 1) xs) (λ k m. let r = places-In test (i + 1) xs k m in let e = r.1 in omega (arith, e)), places-rise test (i + 1) xs))
    (λ n. subst Rises (sym (cond-false (test i x) (i ∷ places test (i + 1) xs) (places test (i + 1) xs) n)) (places-rise test (i + 1) xs))
    (cases_Bool (test i x))

-- the same from 0 on
pub places-has : (test : ℕ → Version → Bool) (vs : List Version) (k : ℕ) → In k (places test 0 vs) → (k < length vs) × (test k (version_in vs k) ≡ true)
places-has test vs k i =
    let p = places-In test 0 vs k i in
    let e : k ≡ p.0 = p.1 ∙ omega arith in
    let l : p.0 < length vs = p.2 in
    (omega (arith, e, l), ap (λ j. test k (version_in vs j)) e ∙ p.3)

pub has-places : (test : ℕ → Version → Bool) (vs : List Version) (k : ℕ) → k < length vs → test k (version_in vs k) ≡ true → In k (places test 0 vs)
has-places test vs k l y =
    let e : 0 + k ≡ k = omega arith in
    subst (λ n. In n (places test 0 vs)) e (In-places test 0 vs k l (ap (λ n. test n (version_in vs k)) e ∙ y))
