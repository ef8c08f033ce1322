-- The front of a list with one more item.
use Rattle.std.proofs.Common.{◌≡◌, ℕ, ◌+◌, List, [], ◌∷◌, ◌++◌, take, Some, sym, ap, ◌∙◌}
use Rattle.std.specs.Prelude.{slice_get}
use Rattle.std.proofs.lemmas.List.{take_more}
use Rattle.std.proofs.lemmas.Option.{get_or_from_slice_get, slice_get_within}

pub take_push : {A : Type 0} (xs : List A) (i : ℕ) (x : A) → slice_get xs i ≡ Some x → take (i + 1) xs ≡ take i xs ++ x ∷ []
take_push xs i x h = take_more xs i x (slice_get_within xs i x h) ∙ ap (λ y. take i xs ++ y ∷ []) (get_or_from_slice_get xs i x x h)

-- a copy of the first i items gets the item at place i
pub pushed : {A : Type 0} (xs ys zs : List A) (i : ℕ) (x : A) → ys ≡ take i xs → zs ≡ ys ++ x ∷ [] → slice_get xs i ≡ Some x → zs ≡ take (i + 1) xs
pushed xs ys zs i x so_far new here = new ∙ ap (λ w. w ++ x ∷ []) so_far ∙ sym (take_push xs i x here)
