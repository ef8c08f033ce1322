-- What a writer holds, and the lines that are gathered to go out after it.
use Rattle.std.specs.Prelude.{◌≡◌, ℕ, List, ◌++◌, Option, Some, None}

-- if it is known what a writer held: that and the bytes to be written after it are what the writer holds now and the
-- bytes still to come
abbrev pub Passes : Option (List ℕ) → List ℕ → Option (List ℕ) → List ℕ → Type 0
Passes None behind now left = Unit {0}
Passes (Some held) behind None left = ⊥
Passes (Some held) behind (Some now) left = now ++ left ≡ held ++ behind
