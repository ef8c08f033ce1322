-- Lines that are gathered, and then sent.
use Rattle.std.proofs.Common.{ℕ, List, [], ◌++◌, ◌∙◌, ap, sym, append_assoc, Option, Some, None}
use Rattle.std.proofs.lemmas.List.{append-nil}
use Rattle.std.specs.Io.KnownBytes.{Appends}
use Rattle.hek_report.specs.Sent.{Passes}

-- a line is gathered
pub passes-line : (b n : Option (List ℕ)) (whole lines line rest : List ℕ) → Passes b whole n (lines ++ (line ++ rest)) → Passes b whole n ((lines ++ line) ++ rest)
passes-line None n whole lines line rest p = tt
passes-line (Some held) None whole lines line rest p = p
passes-line (Some held) (Some now) whole lines line rest p = ap (λ (xs : List ℕ). now ++ xs) (append_assoc lines line rest) ∙ p

-- gathered lines go out
pub passes-on : (b n m : Option (List ℕ)) (whole lines left rest : List ℕ) → Passes b whole n (lines ++ rest) → Passes n lines m left → Passes b whole m (left ++ rest)
passes-on None n m whole lines left rest p q = tt
passes-on (Some held) None m whole lines left rest p q = absurd p
passes-on (Some held) (Some now) None whole lines left rest p q = absurd q
passes-on (Some held) (Some now) (Some then) whole lines left rest p q =
    sym (append_assoc then left rest) ∙ ap (λ (xs : List ℕ). xs ++ rest) q ∙ append_assoc now lines rest ∙ p

-- the last gathered lines go out
pub passes-end : (b n m : Option (List ℕ)) (whole lines : List ℕ) → Passes b whole n (lines ++ []) → Appends n m lines → Appends b m whole
passes-end None n m whole lines p q = tt
passes-end (Some held) None m whole lines p q = absurd p
passes-end (Some held) (Some now) None whole lines p q = absurd q
passes-end (Some held) (Some now) (Some then) whole lines p q = q ∙ ap (λ (xs : List ℕ). now ++ xs) (sym (append-nil lines)) ∙ p
