-- One pass over a line, for its words and for bytes that are not ASCII.
use Rattle.std.proofs.Common.{◌≡◌, ℕ, ◌+◌, ◌-◌, ◌<◌, ◌≤◌, Bool, true, false, ◌||◌, List, [], ◌∷◌, ◌++◌, map, Bor, length, take, drop, drop-drop, get_or, refl, sym, ap, ◌∙◌, arith, inl, inr}
use Rattle.std.specs.Prelude.{nat_le}
use Rattle.std.specs.Int.Bits.{bit_or}
use Rattle.std.specs.List.{position_or_len}
use Rattle.std.proofs.lemmas.Bool.{cases_Bool, true≢false, leb-true, leb-false, le-leb, lt-leb}
use Rattle.std.proofs.lemmas.Nat.{or_lt, le_or_l, le_or_r}
use Rattle.hek_rules.specs.Text.{words_of, is_blank, is_comment, ends_word}
use Rattle.hek_rules.proofs.TextLemmas.{at_place, words_cut}
use Rattle.hek_asm.specs.Text.{has_foreign}

-- a byte that ends no word
pub passed : (line : List ℕ) (i : ℕ) → i < length line → ends_word (get_or line i 0) ≡ false
    → (i + 1) + position_or_len ends_word (drop (i + 1) line) ≡ i + position_or_len ends_word (drop i line)
passed line i h e = rw (at_place line i h, e) (omega arith)

-- a byte that ends a word, or follows the end of one
pub ended : (line : List ℕ) (i : ℕ) → i < length line → ends_word (get_or line i 0) ≡ true → position_or_len ends_word (drop i line) ≡ 0
ended line i h e = rw (at_place line i h, e) refl

-- a word from one place up to another is the first of those from there
pub word_read : (line : List ℕ) (start i : ℕ) → start < i → i - start ≡ position_or_len ends_word (drop start line)
    → words_of (drop start line) ≡ take (i - start) (drop start line) ∷ words_of (drop i line)
word_read line start i h e =
    words_cut (drop start line) (i - start) (omega arith) e
    ∙ ap (λ (bs : List ℕ). take (i - start) (drop start line) ∷ words_of bs) (drop-drop (i - start) start line ∙ ap (λ n. drop n line) (omega arith))

-- a blank adds no word
pub blank_read : (line : List ℕ) (i : ℕ) → i < length line → ends_word (get_or line i 0) ≡ true → is_comment (get_or line i 0) ≡ false
    → words_of (drop i line) ≡ words_of (drop (i + 1) line)
blank_read line i h e none = elim (cases_Bool (is_blank (get_or line i 0))) [
  | inl blank ↦ rw (at_place line i h, blank) refl
  | inr other ↦ absurd (true≢false (sym e ∙ rw (other, none) refl))
]

-- a comment has no words
pub comment_read : (line : List ℕ) (i : ℕ) → i < length line → get_or line i 0 ≡ 35 → words_of (drop i line) ≡ []
comment_read line i h e = rw (at_place line i h, e) refl

-- the bits of two bytes show whether one of them is not ASCII
above : (a b : ℕ) → nat_le 128 (bit_or a b) ≡ (nat_le 128 a || nat_le 128 b)
above a b = elim (cases_Bool (nat_le 128 a)) [
  | inl high ↦ let below = leb-true 128 a high in let more = le_or_l a b in rw high (le-leb 128 (bit_or a b) (omega (arith, below, more)))
  | inr low ↦ elim (cases_Bool (nat_le 128 b)) [
    | inl high ↦ let below = leb-true 128 b high in let more = le_or_r a b in rw (low, high) (le-leb 128 (bit_or a b) (omega (arith, below, more)))
    | inr lower ↦ rw (low, lower) (lt-leb 128 (bit_or a b) (or_lt 7 a b (leb-false 128 a low) (leb-false 128 b lower)))
  ]
]

either : (x y z : Bool) → ((x || y) || z) ≡ (x || (y || z))
either true y z = refl
either false y z = refl

-- a byte that begins no comment counts in the bits from then on
pub foreign_passed : (line : List ℕ) (i bits : ℕ) → i < length line → is_comment (get_or line i 0) ≡ false
    → (nat_le 128 (bit_or bits (get_or line i 0)) || has_foreign (drop (i + 1) line)) ≡ (nat_le 128 bits || has_foreign (drop i line))
foreign_passed line i bits h none =
    rw (at_place line i h, none, above bits (get_or line i 0)) (either (nat_le 128 bits) (nat_le 128 (get_or line i 0)) (has_foreign (drop (i + 1) line)))

-- the byte that begins a comment adds nothing to the bits
pub foreign_done : (line : List ℕ) (i bits : ℕ) → i < length line → get_or line i 0 ≡ 35
    → nat_le 128 (bit_or bits (get_or line i 0)) ≡ (nat_le 128 bits || has_foreign (drop i line))
foreign_done line i bits h e = rw (at_place line i h, e) (above bits 35)

-- one more word after those that are read
pub word_put : (words : List (Bor (List ℕ))) (word : Bor (List ℕ)) (rest : List (List ℕ)) → map (λ w. w.now) (words ++ word ∷ []) ++ rest ≡ map (λ w. w.now) words ++ word.now ∷ rest
word_put [] word rest = refl
word_put (w ∷ ws) word rest = ap (λ (vs : List (List ℕ)). w.now ∷ vs) (word_put ws word rest)

-- the words before a place where a word ends
pub word_added : (line : List ℕ) (start i : ℕ) (words more : List (Bor (List ℕ))) (word : Bor (List ℕ)) → start < i
    → i + position_or_len ends_word (drop i line) ≡ start + position_or_len ends_word (drop start line) → position_or_len ends_word (drop i line) ≡ 0
    → map (λ w. w.now) words ++ words_of (drop start line) ≡ words_of line → word.now ≡ take (i - start) (drop start line) → more ≡ words ++ word ∷ []
    → map (λ w. w.now) more ++ words_of (drop i line) ≡ words_of line
word_added line start i words more word h same none so_far cut put =
    ap (λ (ws : List (Bor (List ℕ))). map (λ w. w.now) ws ++ words_of (drop i line)) put
    ∙ word_put words word (words_of (drop i line))
    ∙ ap (λ (v : List ℕ). map (λ w. w.now) words ++ v ∷ words_of (drop i line)) cut
    ∙ ap (λ (vs : List (List ℕ)). map (λ w. w.now) words ++ vs) (sym (word_read line start i h (omega (arith, same, none, h))))
    ∙ so_far

-- no word is added where none lies between the start and a place
pub none_added : (line : List ℕ) (start i : ℕ) (words : List (Bor (List ℕ))) → start ≤ i → i ≤ start
    → map (λ w. w.now) words ++ words_of (drop start line) ≡ words_of line → map (λ w. w.now) words ++ words_of (drop i line) ≡ words_of line
none_added line start i words a b so_far = ap (λ (n : ℕ). map (λ w. w.now) words ++ words_of (drop n line)) (omega (arith, a, b)) ∙ so_far

neither : (x y : Bool) → (x || y) ≡ false → y ≡ false
neither true y e = absurd cc
neither false y e = e

-- a byte that ends no word begins no comment
pub no_comment : (b : ℕ) → ends_word b ≡ false → is_comment b ≡ false
no_comment b e = neither (is_blank b) (is_comment b) e
