-- Places in a text.
use Rattle.std.specs.Prelude.{ℕ, ◌≡◌, ◌-◌, List, [], ◌∷◌, ◌++◌, Some, slice_get}
use Rattle.hek_rules.specs.Text.{lines_of}

-- the lines of a text, and after them one without characters, where the text ends
abbrev pub lines_and_end : List ℕ → List (List ℕ)
lines_and_end text = lines_of text ++ [] ∷ []

-- the line of this number, counted from 1, is among them
abbrev pub IsLine : List ℕ → ℕ → List ℕ → Type 0
IsLine text number line = slice_get (lines_and_end text) (number - 1) ≡ Some line
