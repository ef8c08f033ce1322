-- Loops over a list, by the part that is left, in each world that a machine represents.
use Rattle.std.proofs.Common.{◌≡◌, ℕ, ◌+◌, ◌<◌, List, ◌∷◌, ◌++◌, ◌∙◌, ap, sym, length, drop, get_or, map}
use Rattle.std.proofs.lemmas.List.{drop_more}
use Rattle.std.specs.List.{flat_map}
use Rattle.hek_rules.specs.World.{World}
use Rattle.hek_machine.specs.declared.engine.Engine.{Engine}
use Rattle.hek_machine.specs.Stands.{StandsFor}
use Rattle.hek_machine.specs.Judgements.{IsShown}

-- the value computed of the part that is left is that of the whole list
abbrev pub Left : {X : Type 0} → Engine → (World → List ℕ → X) → List ℕ → ℕ → Type 0
Left m f xs i = (w : World) → StandsFor m w → f w (drop i xs) ≡ f w xs

at_head : {X : Type 0} (f : World → List ℕ → X) (w : World) (xs : List ℕ) (i x : ℕ) → i < length xs → x ≡ get_or xs i x → f w (drop i xs) ≡ f w (x ∷ drop (i + 1) xs)
at_head f w xs i x below here = ap (f w) (drop_more xs i x below) ∙ ap (λ y. f w (y ∷ drop (i + 1) xs)) (sym here)

-- the next item decides the value
pub left_at : {X : Type 0} (m : Engine) (f : World → List ℕ → X) (xs : List ℕ) (i x : ℕ) (y : X) → i < length xs → x ≡ get_or xs i x →
    ((w : World) → StandsFor m w → (rest : List ℕ) → f w (x ∷ rest) ≡ y) → Left m f xs i → IsShown m (λ w. f w xs) y
left_at m f xs i x y below here decides left w s = sym (left w s) ∙ at_head f w xs i x below here ∙ decides w s (drop (i + 1) xs)

-- what was gathered, with what the part that is left gives, is what the whole list gives
abbrev pub Maps : {X : Type 0} → Engine → (World → ℕ → X) → List ℕ → List X → List X → ℕ → Type 0
Maps m f xs before found i = (w : World) → StandsFor m w → found ++ map (f w) (drop i xs) ≡ before ++ map (f w) xs

-- what was gathered, with the lists that the part that is left gives, is what the whole list gives
abbrev pub Gathers : {X : Type 0} → Engine → (World → ℕ → List X) → List ℕ → List X → List X → ℕ → Type 0
Gathers m f xs before found i = (w : World) → StandsFor m w → found ++ flat_map (f w) (drop i xs) ≡ before ++ flat_map (f w) xs
