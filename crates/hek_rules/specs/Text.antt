-- Texts: the lines of a text, the words of a line, and numbers.
use Rattle.std.specs.Prelude.{ℕ, ◌^◌, Bool, false, ◌&&◌, ◌||◌, not, ◌==◌, nat_le, nat_lt, List, [], ◌∷◌, length, Option, Some, None, if◌then◌else◌}
use Rattle.std.specs.List.{onto_first}
use Rattle.std.specs.Str.{all_ascii_digits}
use Rattle.std.specs.Str.Parse.{digits_value}

-- LF ends a line
abbrev pub is_line_end : ℕ → Bool
is_line_end b = b == 10

-- the lines of a text, without their LF. The last line needs none.
abbrev pub lines_of : List ℕ → List (List ℕ)
lines_of [] = []
lines_of (b ∷ bs) = if is_line_end b then [] ∷ lines_of bs else onto_first b (lines_of bs)

-- space, tab and CR
abbrev pub is_blank : ℕ → Bool
is_blank b = (b == 32 || b == 9) || b == 13

-- '#' begins a comment, which goes to the end of the line
abbrev pub is_comment : ℕ → Bool
is_comment b = b == 35

abbrev pub ends_word : ℕ → Bool
ends_word b = is_blank b || is_comment b

-- whether a word begins at the front of these bytes
abbrev pub at_word : List ℕ → Bool
at_word [] = false
at_word (b ∷ bs) = not (ends_word b)

-- the words of a line: a blank adds nothing, a comment ends the line, and each other byte goes to the front of the word
-- that follows it, or is a word of one byte
abbrev pub words_of : List ℕ → List (List ℕ)
words_of [] = []
words_of (b ∷ bs) =
    if is_blank b then words_of bs
    else if is_comment b then []
    else if at_word bs then onto_first b (words_of bs)
    else (b ∷ []) ∷ words_of bs

-- 1 to 20 decimal digits that write a number below 2^64
abbrev pub is_number : List ℕ → Bool
is_number word =
    ((nat_lt 0 (length word) && nat_le (length word) 20) && all_ascii_digits word) && nat_lt (digits_value 10 word) (2 ^ 64)

-- the number that a word is
abbrev pub number_of : List ℕ → Option ℕ
number_of word = if is_number word then Some (digits_value 10 word) else None
