-- What is written command by command, and what is still to come.
use Rattle.std.proofs.Common.{ℕ, List, ◌++◌, ◌∙◌, ap, append_assoc, Option, Some, None}
use Rattle.std.specs.Io.KnownBytes.{Appends}
use Rattle.hek_report.specs.Sent.{Passes}

-- the next of the lines to come goes out
pub passes-next : (b n m : Option (List ℕ)) (whole line rest : List ℕ) → Passes b whole n (line ++ rest) → Appends n m line → Passes b whole m rest
passes-next None n m whole line rest p q = tt
passes-next (Some held) None m whole line rest p q = absurd p
passes-next (Some held) (Some now) None whole line rest p q = absurd q
passes-next (Some held) (Some now) (Some then) whole line rest p q =
    ap (λ (xs : List ℕ). xs ++ rest) q ∙ append_assoc now line rest ∙ p
