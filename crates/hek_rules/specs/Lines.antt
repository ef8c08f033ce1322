-- Lines that are written: words with one space between them, and LF at the end.
use Rattle.std.specs.Prelude.{ℕ, List, [], ◌∷◌, ◌++◌}

-- words, each with a space before it
abbrev pub spaced : List (List ℕ) → List ℕ
spaced [] = []
spaced (w ∷ ws) = 32 ∷ (w ++ spaced ws)

-- words with one space between them
abbrev pub joined_words : List (List ℕ) → List ℕ
joined_words [] = []
joined_words (w ∷ ws) = w ++ spaced ws

abbrev pub line_text : List (List ℕ) → List ℕ
line_text ws = joined_words ws ++ 10 ∷ []
