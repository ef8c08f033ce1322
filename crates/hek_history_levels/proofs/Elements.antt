-- Elements of a list with one more.
use Rattle.std.proofs.Common.{◌≡◌, ℕ, zero, suc, ◌<◌, ◌+◌, Bool, true, false, List, [], ◌∷◌, ◌++◌, Option, Some, refl, ap, ◌∙◌, inl, inr, ◌⊎◌, length, set, arith}
use Rattle.std.specs.Prelude.{slice_get, ◌||◌}
use Rattle.std.specs.List.{list_any}
use Rattle.std.proofs.lemmas.Bool.{cases_lt}

pub some-is : {A : Type 0} (x y : A) → ◌≡◌ {A = Option A} (Some x) (Some y) → x ≡ y
some-is x y e = cc

-- an element is an old one, or the one that was pushed
pub last-or-before : {A : Type 0} (xs : List A) (x : A) (k : ℕ) (y : A) → slice_get (xs ++ x ∷ []) k ≡ Some y → (slice_get xs k ≡ Some y) ⊎ ((k ≡ length xs) × (x ≡ y))
last-or-before [] x zero y e = inr (refl, some-is x y e)
last-or-before [] x (suc k) y e = cc
last-or-before (z ∷ xs) x zero y e = inl e
last-or-before (z ∷ xs) x (suc k) y e = elim (last-or-before xs x k y e) [ inl l ↦ inl l | inr r ↦ inr (ap suc r.0, r.1) ]

pub stays-there : {A : Type 0} (xs ys : List A) (k : ℕ) (y : A) → slice_get xs k ≡ Some y → slice_get (xs ++ ys) k ≡ Some y
stays-there [] ys k y e = cc
stays-there (z ∷ xs) ys zero y e = e
stays-there (z ∷ xs) ys (suc k) y e = stays-there xs ys k y e

pub pushed-there : {A : Type 0} (xs : List A) (x : A) → slice_get (xs ++ x ∷ []) (length xs) ≡ Some x
pushed-there [] x = refl
pushed-there (z ∷ xs) x = pushed-there xs x

pub any-pushed : (f : ℕ → Bool) (xs : List ℕ) (x : ℕ) → list_any f (xs ++ x ∷ []) ≡ (list_any f xs || f x)
any-pushed f [] x = or-false (f x)
  where
    or-false : (b : Bool) → (b || false) ≡ (false || b)
    or-false true = refl
    or-false false = refl
any-pushed f (z ∷ xs) x = ap (λ (b : Bool). f z || b) (any-pushed f xs x) ∙ assoc (f z) (list_any f xs) (f x)
  where
    assoc : (a b c : Bool) → (a || (b || c)) ≡ ((a || b) || c)
    assoc true b c = refl
    assoc false b c = refl

-- ---- a list with an element that is replaced

pub replaced-there : {A : Type 0} (xs : List A) (n : ℕ) (x : A) → n < length xs → slice_get (set xs n x) n ≡ Some x
replaced-there [] n x l = absurd (omega (arith, l))
replaced-there (y ∷ xs) zero x l = refl
replaced-there (y ∷ xs) (suc n) x l = replaced-there xs n x (omega (arith, l))

pub others-there : {A : Type 0} (xs : List A) (n k : ℕ) (x : A) → (k ≡ n → ⊥) → slice_get (set xs n x) k ≡ slice_get xs k
others-there [] n k x other = refl
others-there (y ∷ xs) zero zero x other = absurd (other refl)
others-there (y ∷ xs) zero (suc k) x other = refl
others-there (y ∷ xs) (suc n) zero x other = refl
others-there (y ∷ xs) (suc n) (suc k) x other = others-there xs n k x (λ e. other (ap suc e))

-- a place below i + 1 is below i, or i
pub cases-below : (j i : ℕ) → j < i + 1 → (j < i) ⊎ (j ≡ i)
cases-below j i l = elim (cases_lt j i) [ inl less ↦ inl less | inr ge ↦ inr (omega arith) ]
