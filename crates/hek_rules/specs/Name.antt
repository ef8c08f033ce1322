-- Names of transactions.
use Rattle.std.specs.Prelude.{ℕ, Bool, false, ◌&&◌, ◌||◌, not, ◌==◌, nat_le, List, [], ◌∷◌, length, codes}
use Rattle.std.specs.List.{list_all}
use Rattle.std.specs.Str.{bytes_eq}

-- a lower-case letter
abbrev pub is_letter : ℕ → Bool
is_letter b = nat_le 97 b && nat_le b 122

-- a lower-case letter, a digit or '_'
abbrev pub is_name_byte : ℕ → Bool
is_name_byte b = (is_letter b || (nat_le 48 b && nat_le b 57)) || b == 95

abbrev pub begins_with_letter : List ℕ → Bool
begins_with_letter [] = false
begins_with_letter (b ∷ bs) = is_letter b

-- the words that a name cannot be: each begins a line of another kind
abbrev pub is_reserved : List ℕ → Bool
is_reserved word =
    ((bytes_eq word (codes "buckets") || bytes_eq word (codes "row")) || bytes_eq word (codes "txn")) || bytes_eq word (codes "detect")

-- a name: 1 to 32 lower-case letters, digits and '_', a letter first, and no reserved word
abbrev pub is_name : List ℕ → Bool
is_name word = ((begins_with_letter word && nat_le (length word) 32) && list_all is_name_byte word) && not (is_reserved word)
