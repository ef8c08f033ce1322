-- A list that grows as the image of another list.
use Rattle.std.proofs.Common.{◌≡◌, ℕ, zero, suc, ◌+◌, ◌<◌, Some, List, [], ◌∷◌, ◌++◌, length, take, get_or, refl, ◌∙◌, sym, ap, arith}
use Rattle.std.specs.Prelude.{map, slice_get}
use Rattle.std.proofs.lemmas.List.{map_push, take_more}

pub slice_get-within : {X : Type 0} (xs : List X) (i : ℕ) (x : X) → slice_get xs i ≡ Some x → i < length xs
slice_get-within [] i x h = cc
slice_get-within (y ∷ ys) zero x h = omega arith
slice_get-within (y ∷ ys) (suc i) x h = let rest = slice_get-within ys i x h in omega (arith, rest)

pub get_or-slice_get : {X : Type 0} (xs : List X) (i : ℕ) (x : X) → slice_get xs i ≡ Some x → get_or xs i x ≡ x
get_or-slice_get [] i x h = refl
get_or-slice_get (y ∷ ys) zero x h = cc
get_or-slice_get (y ∷ ys) (suc i) x h = get_or-slice_get ys i x h

-- the image of one more element of a list
pub mapped-more : {X Y : Type 0} (f : X → Y) (xs : List X) (ys new : List Y) (x : X) (i : ℕ) → ys ≡ map f (take i xs) → slice_get xs i ≡ Some x → new ≡ ys ++ f x ∷ [] →
    new ≡ map f (take (i + 1) xs)
mapped-more f xs ys new x i so_far at pushed =
    pushed
    ∙ ap (λ y. ys ++ f y ∷ []) (sym (get_or-slice_get xs i x at))
    ∙ ap (λ zs. zs ++ f (get_or xs i x) ∷ []) so_far
    ∙ sym (map_push f (take i xs) (get_or xs i x))
    ∙ ap (map f) (sym (take_more xs i x (slice_get-within xs i x at)))
