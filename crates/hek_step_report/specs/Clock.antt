-- The first line of a state.
use Rattle.std.specs.Prelude.{ℕ, List, [], ◌∷◌, ◌++◌, codes}
use Rattle.std.specs.Fmt.{decimal}

abbrev pub clock_text : ℕ → List ℕ
clock_text clock = codes "clock " ++ decimal clock ++ 10 ∷ []
