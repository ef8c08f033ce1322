-- If a closed walk exists, one exists with fewer members in between than there are numbers.
use Rattle.std.proofs.Common.{ℕ, zero, suc, ◌≡◌, ◌+◌, ◌<◌, ◌≤◌, Bool, true, false, ◌&&◌, not, eqb, List, [], ◌∷◌, ◌++◌, length, refl, ap, ◌∙◌, subst, inl, inr, ◌⊎◌, arith}
use Rattle.std.proofs.lemmas.Bool.{cases_lt, cases_eq, ne_eqb, eq-eqb}
use Rattle.hek_rules.specs.Cycles.{Follows, JoinsBelow}

abbrev pub one_if : Bool → ℕ
one_if true = 1
one_if false = 0

-- how many numbers below n pass the test
unfoldable pub count : (ℕ → Bool) → ℕ → ℕ
count p zero = 0
count p (suc n) = count p n + one_if (p n)

abbrev pub without : (ℕ → Bool) → ℕ → ℕ → Bool
without p y z = p z && not (eqb z y)

abbrev pub EachPasses : (ℕ → Bool) → List ℕ → Type 0
EachPasses p [] = Unit {0}
EachPasses p (y ∷ ys) = (p y ≡ true) × EachPasses p ys

without_other : (p : ℕ → Bool) (y z : ℕ) → (z ≡ y → ⊥) → without p y z ≡ p z
without_other p y z ne = rw (ne_eqb z y ne) (kept (p z))
  where
    kept : (b : Bool) → (b && not false) ≡ b
    kept true = refl
    kept false = refl

without_same : (p : ℕ → Bool) (y : ℕ) → without p y y ≡ false
without_same p y = rw (eq-eqb y y refl) (gone (p y))
  where
    gone : (b : Bool) → (b && not true) ≡ false
    gone true = refl
    gone false = refl

count_before : (p : ℕ → Bool) (y n : ℕ) → n ≤ y → count (without p y) n ≡ count p n
unfolding count
count_before p y zero h = refl
count_before p y (suc n) h =
    let ne : n ≡ y → ⊥ = λ e. omega arith in
    let lt : n ≤ y = omega arith in
    rw (count_before p y n lt, without_other p y n ne) refl

count_without : (p : ℕ → Bool) (y n : ℕ) → y < n → p y ≡ true → count (without p y) n + 1 ≡ count p n
unfolding count
count_without p y zero lt e = absurd (omega arith)
count_without p y (suc n) lt e =
    elim (cases_lt y n) [
      | inl below ↦
          let ne : n ≡ y → ⊥ = λ e. omega arith in
          let k : count (without p y) n + 1 ≡ count p n = count_without p y n below e in
          let o : without p y n ≡ p n = without_other p y n ne in
          let o' : one_if (without p y n) ≡ one_if (p n) = ap one_if o in
          omega arith
      | inr above ↦
          let same : y ≡ n = omega arith in
          let k : count (without p y) n ≡ count p n = count_before p y n (omega arith) in
          let o : without p y n ≡ false = subst (λ (v : ℕ). without p y v ≡ false) same (without_same p y) in
          let o' : one_if (without p y n) ≡ 0 = ap one_if o in
          let one : one_if (p n) ≡ 1 = ap one_if (subst (λ (v : ℕ). p v ≡ true) same e) in
          omega arith
    ]

count_all : (n : ℕ) → count (λ z. true) n ≡ n
unfolding count
count_all zero = refl
count_all (suc n) = rw (count_all n) (omega arith)

-- a walk from x to t whose members in between pass a test
abbrev pub WalkWithin : (ℕ → ℕ → Bool) → (ℕ → Bool) → ℕ → ℕ → List ℕ → Type 0
WalkWithin edge p x t ys = Follows edge x (ys ++ t ∷ []) × EachPasses p ys

-- a walk that does not meet y, or the rest of it from its last y on
cut : (edge : ℕ → ℕ → Bool) (p : ℕ → Bool) (y t z : ℕ) (ws : List ℕ) → Follows edge z (ws ++ t ∷ []) → EachPasses p ws → EachPasses (without p y) ws ⊎ ((vs : List ℕ) × WalkWithin edge (without p y) y t vs)
cut edge p y t z [] f w = inl tt
cut edge p y t z (a ∷ ws) f w =
    elim (cut edge p y t a ws f.1 w.1) [
      | inr r ↦ inr r
      | inl k ↦
          elim (cases_eq a y) [
            | inl e ↦ inr (ws, (subst (λ (v : ℕ). Follows edge v (ws ++ t ∷ [])) e f.1, k))
            | inr ne ↦ inl (without_other p y a ne ∙ w.0, k)
          ]
    ]

-- a walk from y to t that does not come back to y
from_here : (edge : ℕ → ℕ → Bool) (p : ℕ → Bool) (y t : ℕ) (ws : List ℕ) → WalkWithin edge p y t ws → (vs : List ℕ) × WalkWithin edge (without p y) y t vs
from_here edge p y t ws w =
    elim (cut edge p y t y ws w.0 w.1) [ inl k ↦ (ws, (w.0, k)) | inr r ↦ r ]

pub record IsShort (edge : ℕ → ℕ → Bool) (x t most : ℕ) (ys : List ℕ) : Type 0 where
  pub follows : Follows edge x (ys ++ t ∷ [])
  pub short : length ys ≤ most

short_of : (edge : ℕ → ℕ → Bool) (n : ℕ) → JoinsBelow edge n → (most : ℕ) (p : ℕ → Bool) (x t : ℕ) (ws : List ℕ) → count p n ≡ most → WalkWithin edge p x t ws → (ys : List ℕ) × IsShort edge x t most ys
short_of edge n j most p x t [] e w = ([], record { follows = w.0; short = omega arith })
short_of edge n j zero p x t (y ∷ ws) e w =
    let k : count (without p y) n + 1 ≡ count p n = count_without p y n (j.to x y w.0.0) w.1.0 in
    absurd (omega arith)
short_of edge n j (suc most) p x t (y ∷ ws) e w =
    let k : count (without p y) n + 1 ≡ count p n = count_without p y n (j.to x y w.0.0) w.1.0 in
    let here : (vs : List ℕ) × WalkWithin edge (without p y) y t vs = from_here edge p y t ws (w.0.1, w.1.1) in
    let rest : (ys : List ℕ) × IsShort edge y t most ys = short_of edge n j most (without p y) y t here.0 (omega arith) here.1 in
    (y ∷ rest.0, record { follows = (w.0.0, rest.1.follows); short = (let l : length rest.0 ≤ most = rest.1.short in omega arith) })

each_passes : (ys : List ℕ) → EachPasses (λ z. true) ys
each_passes [] = tt
each_passes (y ∷ ys) = (refl, each_passes ys)

-- a walk from t back to t exists with fewer than n members in between, if any does
pub short_closed : (edge : ℕ → ℕ → Bool) (n : ℕ) → JoinsBelow edge n → (t : ℕ) → t < n → (ws : List ℕ) → Follows edge t (ws ++ t ∷ []) → (ys : List ℕ) × Follows edge t (ys ++ t ∷ []) × (length ys < n)
short_closed edge n j t lt ws f =
    let k : count (without (λ z. true) t) n + 1 ≡ count (λ z. true) n = count_without (λ z. true) t n lt refl in
    let all : count (λ z. true) n ≡ n = count_all n in
    let here : (vs : List ℕ) × WalkWithin edge (without (λ z. true) t) t t vs = from_here edge (λ z. true) t t ws (f, each_passes ws) in
    let rest : (ys : List ℕ) × IsShort edge t t (count (without (λ z. true) t) n) ys = short_of edge n j (count (without (λ z. true) t) n) (without (λ z. true) t) t t here.0 refl here.1 in
    (rest.0, rest.1.follows, (let l : length rest.0 ≤ count (without (λ z. true) t) n = rest.1.short in omega arith))
