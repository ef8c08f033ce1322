-- Two lists of one length as a list of pairs.
use Rattle.std.proofs.Common.{◌≡◌, ℕ, zero, suc, ◌<◌, List, [], ◌∷◌, ◌++◌, length, refl, ap, arith, take, drop, map, get_or}
use Rattle.std.specs.Prelude.{slice_get, Some}
use Rattle.std.specs.List.{zip}

pub zip-append : {A B : Type 0} (xs : List A) (ys : List B) (x : A) (y : B) → length ys ≡ length xs → zip (xs ++ x ∷ []) (ys ++ y ∷ []) ≡ zip xs ys ++ (x, y) ∷ []
zip-append [] [] x y e = refl
zip-append [] (b ∷ ys) x y e = absurd (omega (arith, e))
zip-append (a ∷ xs) [] x y e = absurd (omega (arith, e))
zip-append (a ∷ xs) (b ∷ ys) x y e = ap (λ zs. (a, b) ∷ zs) (zip-append xs ys x y (omega (arith, e)))

pub zip-parts : {A B : Type 0} (ps : List (A × B)) → zip (map (λ (p : A × B). p.0) ps) (map (λ (p : A × B). p.1) ps) ≡ ps
zip-parts [] = refl
zip-parts (p ∷ ps) = ap (λ zs. p ∷ zs) (zip-parts ps)

-- the pairs from a place on, if both lists have an item there
pub zip-drop : {A B : Type 0} (xs : List A) (ys : List B) (i : ℕ) (x : A) (y : B) → i < length xs → i < length ys → get_or xs i x ≡ x → get_or ys i y ≡ y →
    drop i (zip xs ys) ≡ (x, y) ∷ drop (suc i) (zip xs ys)
zip-drop [] ys i x y l m p q = absurd (omega (arith, l))
zip-drop (a ∷ xs) [] i x y l m p q = absurd (omega (arith, m))
zip-drop (a ∷ xs) (b ∷ ys) zero x y l m p q = λ j. (p j, q j) ∷ zip xs ys
zip-drop (a ∷ xs) (b ∷ ys) (suc i) x y l m p q = zip-drop xs ys i x y (omega (arith, l)) (omega (arith, m)) p q

pub zip-take : {A B : Type 0} (xs : List A) (ys : List B) (i : ℕ) → zip (take i xs) (take i ys) ≡ take i (zip xs ys)
zip-take xs ys zero = refl
zip-take [] ys (suc i) = refl
zip-take (a ∷ xs) [] (suc i) = refl
zip-take (a ∷ xs) (b ∷ ys) (suc i) = ap (λ zs. (a, b) ∷ zs) (zip-take xs ys i)

pub zip-get : {A B : Type 0} (xs : List A) (ys : List B) (i : ℕ) (x : A) (y : B) → i < length xs → i < length ys → get_or xs i x ≡ x → get_or ys i y ≡ y → slice_get (zip xs ys) i ≡ Some (x, y)
zip-get [] ys i x y l m p q = absurd (omega (arith, l))
zip-get (a ∷ xs) [] i x y l m p q = absurd (omega (arith, m))
zip-get (a ∷ xs) (b ∷ ys) zero x y l m p q = λ j. Some (p j, q j)
zip-get (a ∷ xs) (b ∷ ys) (suc i) x y l m p q = zip-get xs ys i x y (omega (arith, l)) (omega (arith, m)) p q

pub zip-length : {A B : Type 0} (xs : List A) (ys : List B) → length ys ≡ length xs → length (zip xs ys) ≡ length xs
zip-length [] ys e = refl
zip-length (x ∷ xs) [] e = absurd (omega (arith, e))
zip-length (x ∷ xs) (y ∷ ys) e = ap suc (zip-length xs ys (omega (arith, e)))
