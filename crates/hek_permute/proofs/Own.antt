-- The moves of one transaction among steps.
use Rattle.std.proofs.Common.{◌≡◌, Bool, List, [], ◌∷◌, ◌++◌, append_assoc, ap, sym, ◌∙◌, filter, refl}
use Rattle.std.proofs.lemmas.List.Elements.{filter-append}
use Rattle.hek_permute.specs.declared.moves.Move.{Move}

-- one more step
pub own-more : (p : Move → Bool) (all own new rest later : List Move) (m : Move) → filter p all ≡ own ++ filter p rest → rest ≡ m ∷ later → new ≡ own ++ filter p (m ∷ []) → filter p all ≡ new ++ filter p later
own-more p all own new rest later m h is e =
    h ∙ ap (λ (l : List Move). own ++ filter p l) is ∙ ap (λ (l : List Move). own ++ l) (filter-append p (m ∷ []) later)
    ∙ sym (append_assoc own (filter p (m ∷ [])) (filter p later)) ∙ ap (λ (l : List Move). l ++ filter p later) (sym e)
