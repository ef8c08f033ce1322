-- A call that gives what is wanted, or fails for one reason.
use Rattle.std.specs.Prelude.{◌≡◌, Result, MatchResult}

abbrev pub Gives : {T E : Type 0} → Result T E → E → (T → Type 0) → Type 0
Gives r lack P = MatchResult r P (λ e. e ≡ lack)
