-- Lines that a machine shows, one after the other.
use Rattle.std.proofs.Common.{◌≡◌, ℕ, List, ◌++◌, append_assoc, ◌∙◌, ap, sym}
use Rattle.hek_rules.specs.World.{World}
use Rattle.hek_machine.specs.declared.engine.Engine.{Engine}
use Rattle.hek_machine.specs.Judgements.{IsShown}

pub shown_after : (m : Engine) (first rest : World → List ℕ) (old between new : List ℕ) → IsShown m (λ w. old ++ first w) between → IsShown m (λ w. between ++ rest w) new →
    IsShown m (λ w. old ++ (first w ++ rest w)) new
shown_after m first rest old between new front back w s = sym (append_assoc old (first w) (rest w)) ∙ ap (λ (xs : List ℕ). xs ++ rest w) (front w s) ∙ back w s

-- what is appended in every world
pub shown_always : (m : Engine) (text old new : List ℕ) → new ≡ old ++ text → IsShown m (λ w. old ++ text) new
shown_always m text old new added w s = sym added
