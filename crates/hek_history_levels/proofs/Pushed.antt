-- What holds of each place of two lists, one element more.
use Rattle.std.proofs.Common.{◌≡◌, ℕ, zero, suc, List, [], ◌∷◌, ◌++◌, Some, refl, sym, ap, ◌∙◌, subst, inl, inr, ◌⊎◌, length}
use Rattle.std.specs.Prelude.{slice_get}

-- an element is an old one, or the one that was pushed
pub last_or_before : {A : Type 0} (xs : List A) (x : A) (k : ℕ) (y : A) → slice_get (xs ++ x ∷ []) k ≡ Some y → (slice_get xs k ≡ Some y) ⊎ ((k ≡ length xs) × (x ≡ y))
last_or_before [] x zero y e = inr (refl, cc)
last_or_before [] x (suc k) y e = cc
last_or_before (z ∷ xs) x zero y e = inl e
last_or_before (z ∷ xs) x (suc k) y e = elim (last_or_before xs x k y e) [ inl l ↦ inl l | inr r ↦ inr (ap suc r.0, r.1) ]

pub same_element : {A : Type 0} (xs : List A) (n : ℕ) (x y : A) → slice_get xs n ≡ Some x → slice_get xs n ≡ Some y → x ≡ y
same_element xs n x y a b = let e : Some x ≡ Some y = sym a ∙ b in cc

-- the n-th of the one list has its like at the end of the other
pub one_more : {A B : Type 0} (xs : List A) (ys : List B) (P : ℕ → A → B → Type 0) (n : ℕ) (x : A) (y : B) → length ys ≡ n → slice_get xs n ≡ Some x → P n x y →
    ((k : ℕ) (a : A) (b : B) → slice_get xs k ≡ Some a → slice_get ys k ≡ Some b → P k a b) →
    (k : ℕ) (a : A) (b : B) → slice_get xs k ≡ Some a → slice_get (ys ++ y ∷ []) k ≡ Some b → P k a b
one_more xs ys P n x y count there here before k a b at new =
    elim (last_or_before ys y k b new) [
      | inl old ↦ before k a b at old
      | inr last ↦
          let same : n ≡ k = sym (last.0 ∙ count) in
          let first : x ≡ a = same_element xs k x a (subst (λ (m : ℕ). slice_get xs m ≡ Some x) same there) at in
          subst (P k a) last.1 (subst (λ z. P k z y) first (subst (λ (m : ℕ). P m x y) same here))
    ]
