-- Items that are taken one after another.
use Rattle.std.proofs.Common.{◌≡◌, ℕ, List, [], ◌∷◌, ◌++◌, Option, Some, ap, sym, ◌∙◌, map, append_assoc}
use Rattle.std.proofs.lemmas.List.{map-append}
use Rattle.std.specs.Prelude.{slice_get}

-- one more item is taken
pub take_step : {X : Type 0} (items xs : List X) (v : ℕ) (places later : List ℕ) (x : X) → map (slice_get items) places ≡ map Some xs ++ map (slice_get items) (v ∷ later) → slice_get items v ≡ Some x
    → map (slice_get items) places ≡ map Some (xs ++ x ∷ []) ++ map (slice_get items) later
take_step {X} items xs v places later x all here =
    all ∙ ap (λ (o : Option X). map Some xs ++ o ∷ map (slice_get items) later) here
    ∙ sym (append_assoc (map Some xs) (Some x ∷ []) (map (slice_get items) later))
    ∙ ap (λ (l : List (Option X)). l ++ map (slice_get items) later) (sym (map-append Some xs (x ∷ [])))
