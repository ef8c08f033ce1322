-- The lines and words of a text that is written line by line, with one space between words.
use Rattle.std.proofs.Common.{◌≡◌, ◌≢◌, ℕ, ◌+◌, ◌<◌, ◌≤◌, true, false, eqb, List, [], ◌∷◌, ◌++◌, length, Option, Result, Ok, refl, ap, ◌∙◌, arith, append_assoc}
use Rattle.std.specs.List.{AllByRecursion, onto_first, flat_map}
use Rattle.std.proofs.lemmas.Bool.{ne_eqb, lt-leb}
use Rattle.hek_rules.specs.Plan.{Plan}
use Rattle.hek_rules.specs.Text.{lines_of, words_of, is_line_end, is_blank, is_comment, at_word}
use Rattle.hek_asm.specs.declared.fault.AsmKind.{AsmKind}
use Rattle.hek_asm.specs.Text.{has_foreign, line_after, lines_after, words_after, onward}
use Rattle.hek_rules.specs.Lines.{spaced, joined_words, line_text}

-- a byte of a word: ASCII, no blank, no LF, no '#'
abbrev pub IsPlain : ℕ → Type 0
IsPlain b = (33 ≤ b) × (b < 128) × (b ≢ 35)

pub record IsWord (w : List ℕ) : Type 0 where
  pub some : 0 < length w
  pub plain : AllByRecursion IsPlain w

apart : (b n : ℕ) → n < b → eqb b n ≡ false
apart b n h = ne_eqb b n (λ e. absurd (omega arith))

pub no_blank : (b : ℕ) → IsPlain b → is_blank b ≡ false
no_blank b h = rw (apart b 32 (omega (arith, h.0)), apart b 9 (omega (arith, h.0)), apart b 13 (omega (arith, h.0))) refl

pub no_comment : (b : ℕ) → IsPlain b → is_comment b ≡ false
no_comment b h = ne_eqb b 35 h.2

pub no_end : (b : ℕ) → IsPlain b → is_line_end b ≡ false
no_end b h = apart b 10 (omega (arith, h.0))

grow : (b : ℕ) (tail : List ℕ) → is_blank b ≡ false → is_comment b ≡ false → at_word tail ≡ true → words_of (b ∷ tail) ≡ onto_first b (words_of tail)
grow b tail p q r = rw (p, q, r) refl

-- what follows a word ends it
word_then : (w rest : List ℕ) → IsWord w → at_word rest ≡ false → words_of (w ++ rest) ≡ w ∷ words_of rest
word_then [] rest h e = absurd (omega (arith, h.some))
word_then (b ∷ []) rest h e = rw (no_blank b h.plain.0, no_comment b h.plain.0, e) refl
word_then (b ∷ c ∷ cs) rest h e =
    let inner : IsWord (c ∷ cs) = record { some = omega arith; plain = h.plain.1 } in
    let next : at_word ((c ∷ cs) ++ rest) ≡ true = rw (no_blank c h.plain.1.0, no_comment c h.plain.1.0) refl in
    grow b ((c ∷ cs) ++ rest) (no_blank b h.plain.0) (no_comment b h.plain.0) next ∙ ap (onto_first b) (word_then (c ∷ cs) rest inner e)

at_spaced : (ws : List (List ℕ)) → at_word (spaced ws) ≡ false
at_spaced [] = refl
at_spaced (w ∷ ws) = refl

words_of-spaced : (ws : List (List ℕ)) → AllByRecursion IsWord ws → words_of (spaced ws) ≡ ws
words_of-spaced [] h = refl
words_of-spaced (w ∷ ws) h = word_then w (spaced ws) h.0 (at_spaced ws) ∙ ap (λ (vs : List (List ℕ)). w ∷ vs) (words_of-spaced ws h.1)

pub words_of-joined : (ws : List (List ℕ)) → AllByRecursion IsWord ws → words_of (joined_words ws) ≡ ws
words_of-joined [] h = refl
words_of-joined (w ∷ ws) h = word_then w (spaced ws) h.0 (at_spaced ws) ∙ ap (λ (vs : List (List ℕ)). w ∷ vs) (words_of-spaced ws h.1)

-- a byte of a line
abbrev pub IsInLine : ℕ → Type 0
IsInLine b = (is_line_end b ≡ false) × (is_comment b ≡ false) × (b < 128)

in_line : (w : List ℕ) → AllByRecursion IsPlain w → AllByRecursion IsInLine w
in_line [] h = tt
in_line (b ∷ bs) h = ((no_end b h.0, no_comment b h.0, h.0.1), in_line bs h.1)

pub all_append : (P : ℕ → Type 0) (xs ys : List ℕ) → AllByRecursion P xs → AllByRecursion P ys → AllByRecursion P (xs ++ ys)
all_append P [] ys h k = k
all_append P (x ∷ xs) ys h k = (h.0, all_append P xs ys h.1 k)

in_spaced : (ws : List (List ℕ)) → AllByRecursion IsWord ws → AllByRecursion IsInLine (spaced ws)
in_spaced [] h = tt
in_spaced (w ∷ ws) h = ((refl, refl, omega arith), all_append IsInLine w (spaced ws) (in_line w h.0.plain) (in_spaced ws h.1))

pub in_joined : (ws : List (List ℕ)) → AllByRecursion IsWord ws → AllByRecursion IsInLine (joined_words ws)
in_joined [] h = tt
in_joined (w ∷ ws) h = all_append IsInLine w (spaced ws) (in_line w h.0.plain) (in_spaced ws h.1)

pub lines_then : (xs rest : List ℕ) → AllByRecursion IsInLine xs → lines_of (xs ++ 10 ∷ rest) ≡ xs ∷ lines_of rest
lines_then [] rest h = refl
lines_then (x ∷ xs) rest h = rw h.0.0 (ap (onto_first x) (lines_then xs rest h.1))

none_foreign : (xs : List ℕ) → AllByRecursion IsInLine xs → has_foreign xs ≡ false
none_foreign [] h = refl
none_foreign (x ∷ xs) h = rw (h.0.1, lt-leb 128 x h.0.2) (none_foreign xs h.1)

pub line_is : (s : Option Plan) (ws : List (List ℕ)) → AllByRecursion IsWord ws → line_after s (joined_words ws) ≡ words_after s ws
unfolding line_after
line_is s ws h = rw (none_foreign (joined_words ws) (in_joined ws h), words_of-joined ws h) refl

-- ---- one line written, and then the rest
abbrev pub written_after : ℕ → Option Plan → List (List (List ℕ)) → Result Plan (ℕ × AsmKind)
written_after n s wss = lines_after n s (lines_of (flat_map line_text wss))

pub written_step : (n : ℕ) (s t : Option Plan) (ws : List (List ℕ)) (more : List (List (List ℕ))) → AllByRecursion IsWord ws → words_after s ws ≡ Ok t → written_after n s (ws ∷ more) ≡ written_after (n + 1) t more
unfolding lines_after
written_step n s t ws more h e =
    let text : flat_map line_text (ws ∷ more) ≡ joined_words ws ++ 10 ∷ flat_map line_text more = append_assoc (joined_words ws) (10 ∷ []) (flat_map line_text more) in
    let lines : lines_of (flat_map line_text (ws ∷ more)) ≡ joined_words ws ∷ lines_of (flat_map line_text more) = ap lines_of text ∙ lines_then (joined_words ws) (flat_map line_text more) (in_joined ws h) in
    ap (lines_after n s) lines ∙ ap (λ r. onward n r (λ next. lines_after (n + 1) next (lines_of (flat_map line_text more)))) (line_is s ws h ∙ e)
