-- What follows a front in a text.
use Rattle.std.proofs.Common.{◌≡◌, ℕ, List, ◌++◌, length, take, ◌∙◌, subst, arith, Option, MatchOption, IfSome, Some, None, Bor}
use Rattle.std.proofs.lemmas.List.{take-append-le}
use Rattle.std.proofs.Math.Seq.{take-length}

pub take_front : (front after : List ℕ) → take (length front) (front ++ after) ≡ front
take_front front after = take-append-le (length front) front after (omega arith) ∙ take-length front

-- what follows a front, if the text begins with it
abbrev pub Behind : List ℕ → List ℕ → Option (Bor (List ℕ)) → Type 0
Behind text front o = MatchOption o ((after : List ℕ) → text ≡ front ++ after → ⊥) (λ after. text ≡ front ++ after.now)

-- the front is the line that was written
pub behind_same : (text front line : List ℕ) (o : Option (Bor (List ℕ))) → front ≡ line → Behind text front o → Behind text line o
behind_same text front line o e h = subst (λ (w : List ℕ). Behind text w o) e h

pub behind_some : (text front line : List ℕ) (o : Option (Bor (List ℕ))) → front ≡ line → Behind text front o → IfSome o (λ after. text ≡ line ++ after.now)
behind_some text front line None e h = tt
behind_some text front line (Some after) e h = subst (λ (w : List ℕ). text ≡ w ++ after.now) e h
