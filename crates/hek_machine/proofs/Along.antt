-- Versions that pass a test, collected along a list: the last of them, or all of them.
use Rattle.std.proofs.Common.{◌≡◌, ℕ, ◌<◌, Bool, true, false, List, [], ◌∷◌, ◌++◌, append_assoc, refl, ◌∙◌, ap, sym, subst, Option, Some, None}
use Rattle.std.proofs.lemmas.List.Elements.{All-append, All-cons, All-nil}
use Rattle.std.specs.List.{All}
use Rattle.std.specs.Prelude.{filter, if◌then◌else◌, IfSome}
use Rattle.hek_rules.specs.Walk.{last}

abbrev pub last_of : Option ℕ → List ℕ → Option ℕ
last_of before [] = before
last_of before (x ∷ xs) = last_of (Some x) xs

last-some : (x : ℕ) (xs : List ℕ) → last_of (Some x) xs ≡ last (x ∷ xs)
last-some x [] = refl
last-some x (y ∷ ys) = last-some y ys

pub last_of_all : (xs : List ℕ) → last_of None xs ≡ last xs
last_of_all [] = refl
last_of_all (x ∷ xs) = last-some x xs

-- the last version that passes, after one more version
pub last_more : (f : ℕ → Bool) (v : ℕ) (rest : List ℕ) (before after : Option ℕ) → after ≡ (if f v then Some v else before) →
    last_of after (filter f rest) ≡ last_of before (filter f (v ∷ rest))
last_more f v rest before after is = ap (λ o. last_of o (filter f rest)) is ∙ by (f v) (filter f rest)
  where
    by : (b : Bool) (xs : List ℕ) → last_of (if b then Some v else before) xs ≡ last_of before (if b then v ∷ xs else xs)
    by true xs = refl
    by false xs = refl

pub below_more : (n v : ℕ) (b : Bool) (before after : Option ℕ) → v < n → IfSome before (λ x. x < n) → after ≡ (if b then Some v else before) → IfSome after (λ x. x < n)
below_more n v b before after l h is = subst (λ o. IfSome o (λ x. x < n)) (sym is) (by b)
  where
    by : (c : Bool) → IfSome (if c then Some v else before) (λ x. x < n)
    by true = l
    by false = h

-- all versions that pass, after one more version
pub listed_more : (f : ℕ → Bool) (v : ℕ) (rest before after : List ℕ) → after ≡ before ++ (if f v then v ∷ [] else []) →
    after ++ filter f rest ≡ before ++ filter f (v ∷ rest)
listed_more f v rest before after is =
    ap (λ xs. xs ++ filter f rest) is ∙ append_assoc before (if f v then v ∷ [] else []) (filter f rest) ∙ ap (λ xs. before ++ xs) (by (f v) (filter f rest))
  where
    by : (b : Bool) (xs : List ℕ) → (if b then v ∷ [] else []) ++ xs ≡ (if b then v ∷ xs else xs)
    by true xs = refl
    by false xs = refl

pub all_below_more : (n v : ℕ) (b : Bool) (before after : List ℕ) → v < n → All (λ x. x < n) before → after ≡ before ++ (if b then v ∷ [] else []) → All (λ x. x < n) after
all_below_more n v b before after l h is =
    subst (All (λ x. x < n)) (sym is) (All-append (λ x. x < n) before (if b then v ∷ [] else []) h (by b))
  where
    by : (c : Bool) → All (λ x. x < n) (if c then v ∷ [] else [])
    by true = All-cons (λ x. x < n) v [] l (All-nil (λ x. x < n))
    by false = All-nil (λ x. x < n)
