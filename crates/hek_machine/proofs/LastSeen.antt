-- The last element that passes a test, found from the end.
use Rattle.std.proofs.Common.{◌≡◌, ℕ, zero, suc, ◌+◌, ◌<◌, Bool, true, false, List, [], ◌∷◌, drop, length, ◌∙◌, sym, ap, arith, Some}
use Rattle.std.specs.Prelude.{filter, slice_index_or, if◌then◌else◌}
use Rattle.hek_rules.specs.Walk.{last}

last-more : (x v : ℕ) (xs : List ℕ) → last xs ≡ Some v → last (x ∷ xs) ≡ Some v
last-more x v [] e = cc
last-more x v (y ∷ ys) e = e

filter-hit : (f : ℕ → Bool) (x : ℕ) (xs : List ℕ) → f x ≡ true → filter f (x ∷ xs) ≡ x ∷ filter f xs
filter-hit f x xs h = ap (λ b. if b then x ∷ filter f xs else filter f xs) h

filter-miss : (f : ℕ → Bool) (x : ℕ) (xs : List ℕ) → f x ≡ false → filter f (x ∷ xs) ≡ filter f xs
filter-miss f x xs h = ap (λ b. if b then x ∷ filter f xs else filter f xs) h

-- the element at place k is the last that passes, if none after it does
pub last_found : (f : ℕ → Bool) (k d : ℕ) (xs : List ℕ) → k < length xs → f (slice_index_or xs k d) ≡ true → filter f (drop (suc k) xs) ≡ [] → last (filter f xs) ≡ Some (slice_index_or xs k d)
last_found f k d [] l h e = absurd (omega (arith, l))
last_found f zero d (x ∷ xs) l h e = ap last (filter-hit f x xs h ∙ ap (λ ys. x ∷ ys) e)
last_found f (suc k) d (x ∷ xs) l h e = more (f x) (last_found f k d xs (omega (arith, l)) h e)
  where
    more : (b : Bool) → last (filter f xs) ≡ Some (slice_index_or xs k d) → last (if b then x ∷ filter f xs else filter f xs) ≡ Some (slice_index_or xs k d)
    more true i = last-more x (slice_index_or xs k d) (filter f xs) i
    more false i = i

-- no element from place k on passes, if the one at k and those after it do not
pub none_from : (f : ℕ → Bool) (k d : ℕ) (xs : List ℕ) → k < length xs → f (slice_index_or xs k d) ≡ false → filter f (drop (suc k) xs) ≡ [] → filter f (drop k xs) ≡ []
none_from f k d [] l h e = absurd (omega (arith, l))
none_from f zero d (x ∷ xs) l h e = filter-miss f x xs h ∙ e
none_from f (suc k) d (x ∷ xs) l h e = none_from f k d xs (omega (arith, l)) h e

-- a place and the next one, by an equation
suc-of : (k j : ℕ) → j ≡ k + 1 → j ≡ suc k
suc-of k j n = omega (arith, n)

pub last_at : (f : ℕ → Bool) (k j x : ℕ) (xs : List ℕ) → k < length xs → j ≡ k + 1 → x ≡ slice_index_or xs k x → f x ≡ true → filter f (drop j xs) ≡ [] → last (filter f xs) ≡ Some x
last_at f k j x xs l n i h e =
    last_found f k x xs l (sym (ap f i) ∙ h) (sym (ap (λ q. filter f (drop q xs)) (suc-of k j n)) ∙ e) ∙ ap (λ q. Some q) (sym i)

pub none_at : (f : ℕ → Bool) (k j x : ℕ) (xs : List ℕ) → k < length xs → j ≡ k + 1 → x ≡ slice_index_or xs k x → f x ≡ false → filter f (drop j xs) ≡ [] → filter f (drop k xs) ≡ []
none_at f k j x xs l n i h e = none_from f k x xs l (sym (ap f i) ∙ h) (sym (ap (λ q. filter f (drop q xs)) (suc-of k j n)) ∙ e)
