-- An item appended to a list all of whose items have a property.
use Rattle.std.proofs.Common.{◌≡◌, ℕ, Bool, true, false, List, [], ◌∷◌, ◌++◌, subst, sym}
use Rattle.std.specs.Prelude.{if◌then◌else◌}
use Rattle.std.specs.List.{All}
use Rattle.std.proofs.lemmas.List.Elements.{All-append, All-nil, All-cons}

pub kept_all : (P : ℕ → Type 0) (b : Bool) (x : ℕ) (before after : List ℕ) → P x → after ≡ (if b then before ++ x ∷ [] else before) → All P before → All P after
kept_all P true x before after h grown all = subst (All P) (sym grown) (All-append P before (x ∷ []) all (All-cons P x [] h (All-nil P)))
kept_all P false x before after h grown all = subst (All P) (sym grown) all
