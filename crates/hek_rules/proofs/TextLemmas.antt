-- The ends of lines and words in a text.
use Rattle.std.proofs.Common.{◌≡◌, ℕ, suc, ◌+◌, ◌-◌, ◌<◌, Bool, true, false, not, ◌||◌, cond, List, [], ◌∷◌, length, take, drop, get_or, refl, sym, ap, ◌∙◌, arith, add-one, drop-cons, inl, inr, length-drop}
use Rattle.std.specs.Prelude.{◌==◌}
use Rattle.std.proofs.lemmas.List.{take_all}
use Rattle.std.specs.List.{prefix_len, position_or_len, onto_first}
use Rattle.std.proofs.lemmas.Bool.{cases_Bool}
use Rattle.hek_rules.specs.Text.{lines_of, words_of, is_line_end, is_blank, is_comment, ends_word}

-- the item at a place, and the list after it
pub at_place : (xs : List ℕ) (i : ℕ) → i < length xs → drop i xs ≡ get_or xs i 0 ∷ drop (i + 1) xs
at_place xs i h = rw (add-one, drop-cons xs i 0) refl

or_false : (x y : Bool) → (x || y) ≡ false → (x ≡ false) × (y ≡ false)
or_false true y e = absurd cc
or_false false y e = (refl, e)

one_more : (n : ℕ) → 1 + n ≡ suc n
one_more n = omega arith

abbrev pub at_blank : List ℕ → Bool
at_blank [] = false
at_blank (b ∷ bs) = is_blank b

-- the first line ends at the first LF, or with the text
pub lines_first : (b : ℕ) (bs : List ℕ) → lines_of (b ∷ bs) ≡ take (position_or_len is_line_end (b ∷ bs)) (b ∷ bs) ∷ lines_of (drop (suc (position_or_len is_line_end (b ∷ bs))) (b ∷ bs))
lines_first b [] = elim (cases_Bool (is_line_end b)) [
  | inl e ↦ rw e refl
  | inr e ↦ rw e refl
]
lines_first b (c ∷ cs) = elim (cases_Bool (is_line_end b)) [
  | inl e ↦ rw e refl
  | inr e ↦ rw (e, one_more (position_or_len is_line_end (c ∷ cs))) (ap (onto_first b) (lines_first c cs))
]

pub lines_cut : (text : List ℕ) (n : ℕ) → 0 < length text → n ≡ position_or_len is_line_end text → lines_of text ≡ take n text ∷ lines_of (drop (n + 1) text)
lines_cut [] n h e = absurd (omega arith)
lines_cut (b ∷ bs) n h e = rw (add-one, e) (lines_first b bs)

-- blanks at the front add no word
pub words_skip : (bs : List ℕ) → words_of (drop (prefix_len is_blank bs) bs) ≡ words_of bs
words_skip [] = refl
words_skip (b ∷ bs) = elim (cases_Bool (is_blank b)) [
  | inl e ↦ rw (e, one_more (prefix_len is_blank bs)) (words_skip bs)
  | inr e ↦ let stay : prefix_len is_blank (b ∷ bs) ≡ 0 = rw e refl in ap (λ (n : ℕ). words_of (drop n (b ∷ bs))) stay
]

pub words_none : (bs : List ℕ) → at_blank bs ≡ false → position_or_len ends_word bs ≡ 0 → words_of bs ≡ []
words_none [] p q = refl
words_none (b ∷ bs) p q = elim (cases_Bool (is_comment b)) [
  | inl e ↦ rw (p, e) refl
  | inr e ↦ let f : position_or_len ends_word (b ∷ bs) ≡ 1 + position_or_len ends_word bs = rw (p, e) refl in absurd (omega arith)
]

pub words_first : (b : ℕ) (bs : List ℕ) → ends_word b ≡ false → words_of (b ∷ bs) ≡ take (position_or_len ends_word (b ∷ bs)) (b ∷ bs) ∷ words_of (drop (position_or_len ends_word (b ∷ bs)) (b ∷ bs))
words_first b [] e = let f = or_false (is_blank b) (is_comment b) e in rw (f.0, f.1) refl
words_first b (c ∷ cs) e =
    let f = or_false (is_blank b) (is_comment b) e in
    elim (cases_Bool (ends_word c)) [
      | inl g ↦ rw (f.0, f.1, g) refl
      | inr g ↦
          let n : ℕ = position_or_len ends_word (c ∷ cs) in
          let here : position_or_len ends_word (b ∷ c ∷ cs) ≡ suc n = ap (λ (x : Bool). cond (not x) (1 + n) 0) e ∙ one_more n in
          let words : words_of (b ∷ c ∷ cs) ≡ onto_first b (words_of (c ∷ cs)) = rw (f.0, f.1, ap not g) refl in
          words ∙ ap (onto_first b) (words_first c cs g) ∙ ap (λ (m : ℕ). take m (b ∷ c ∷ cs) ∷ words_of (drop m (b ∷ c ∷ cs))) (sym here)
    ]

-- the byte after the blanks at the front is not a blank
pub no_blank : (bs : List ℕ) → at_blank (drop (prefix_len is_blank bs) bs) ≡ false
no_blank [] = refl
no_blank (b ∷ bs) = elim (cases_Bool (is_blank b)) [
  | inl e ↦ rw (e, one_more (prefix_len is_blank bs)) (no_blank bs)
  | inr e ↦ rw e e
]

pub words_cut : (line : List ℕ) (n : ℕ) → 0 < n → n ≡ position_or_len ends_word line → words_of line ≡ take n line ∷ words_of (drop n line)
words_cut [] n h e = absurd (omega arith)
words_cut (b ∷ bs) n h e = elim (cases_Bool (ends_word b)) [
  | inl g ↦ let none : position_or_len ends_word (b ∷ bs) ≡ 0 = rw g refl in absurd (omega arith)
  | inr g ↦ rw e (words_first b bs g)
]

-- the list from a place on, as a slice gives it
pub from_place : (n : ℕ) (xs : List ℕ) → take (length xs - n) (drop n xs) ≡ drop n xs
from_place n xs = take_all (length xs - n) (drop n xs) (omega (arith, length-drop n xs))

pub not_empty : (xs : List ℕ) → false ≡ (length xs == 0) → 0 < length xs
not_empty [] e = absurd cc
not_empty (x ∷ xs) e = omega arith
