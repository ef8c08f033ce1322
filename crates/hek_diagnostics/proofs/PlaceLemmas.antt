-- The lines of a text, one after another.
use Rattle.std.proofs.Common.{◌≡◌, ℕ, zero, suc, ◌+◌, ◌-◌, List, [], ◌∷◌, ◌++◌, drop, length, slice_get, Some, refl, sym, ap, ◌∙◌, add-one, arith}
use Rattle.hek_rules.specs.Text.{lines_of}
use Rattle.hek_diagnostics.specs.Places.{lines_and_end}

-- the element at a place, by what is left from there on
pub first_left : {X : Type 0} (xs ys : List X) (i : ℕ) (x : X) → drop i xs ≡ x ∷ ys → slice_get xs i ≡ Some x
first_left [] ys zero x h = cc
first_left [] ys (suc i) x h = cc
first_left (z ∷ zs) ys zero x h = cc
first_left (z ∷ zs) ys (suc i) x h = first_left zs ys i x h

-- what is left after one more element
pub rest_left : {X : Type 0} (xs ys : List X) (i : ℕ) (x : X) → drop i xs ≡ x ∷ ys → drop (i + 1) xs ≡ ys
rest_left [] ys zero x h = cc
rest_left [] ys (suc i) x h = cc
rest_left (z ∷ zs) ys zero x h = cc
rest_left (z ∷ zs) ys (suc i) x h = let e : suc i + 1 ≡ suc (i + 1) = omega arith in rw e (rest_left zs ys i x h)

-- the number of a line, counted from 1, as a place
pub place_of_number : {X : Type 0} (xs : List X) (i : ℕ) (x : X) → slice_get xs i ≡ Some x → slice_get xs (i + 1 - 1) ≡ Some x
place_of_number xs i x h = let e : i + 1 - 1 ≡ i = omega arith in rw e h

-- the lines that are left, by the first of them
pub lines_by_first : (text rest after line : List ℕ) (n : ℕ) → drop n (lines_and_end text) ≡ lines_and_end rest → lines_of rest ≡ line ∷ lines_of after →
    drop n (lines_and_end text) ≡ line ∷ lines_and_end after
lines_by_first text rest after line n left first = left ∙ ap (λ (ls : List (List ℕ)). ls ++ [] ∷ []) first

pub next_is_line : (text rest after line : List ℕ) (n : ℕ) → drop n (lines_and_end text) ≡ lines_and_end rest → lines_of rest ≡ line ∷ lines_of after →
    slice_get (lines_and_end text) (n + 1 - 1) ≡ Some line
next_is_line text rest after line n left first =
    place_of_number (lines_and_end text) n line (first_left (lines_and_end text) (lines_and_end after) n line (lines_by_first text rest after line n left first))

pub next_lines_left : (text rest after line : List ℕ) (n : ℕ) → drop n (lines_and_end text) ≡ lines_and_end rest → lines_of rest ≡ line ∷ lines_of after →
    drop (n + 1) (lines_and_end text) ≡ lines_and_end after
next_lines_left text rest after line n left first =
    rest_left (lines_and_end text) (lines_and_end after) n line (lines_by_first text rest after line n left first)

pub without_elements : (xs : List ℕ) → length xs ≡ 0 → xs ≡ []
without_elements [] h = refl
without_elements (x ∷ xs) h = absurd (omega (arith, h))

-- the line after the last one
pub end_is_line : (text rest : List ℕ) (n : ℕ) → drop n (lines_and_end text) ≡ lines_and_end rest → length rest ≡ 0 → slice_get (lines_and_end text) (n + 1 - 1) ≡ Some rest
end_is_line text rest n left none = let empty = without_elements rest none in rw empty (place_of_number (lines_and_end text) n [] (first_left (lines_and_end text) [] n [] (left ∙ ap lines_and_end empty)))
