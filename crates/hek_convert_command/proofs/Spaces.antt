-- The words of a line that has a space between each two, and the entry that is written so.
use Rattle.std.proofs.Common.{◌≡◌, refl, sym, ap, subst, ◌∙◌, ℕ, suc, zero, ◌<◌, ◌≤◌, ◌^◌, ◌&&◌, Bool, true, false, cond, leb, List, [], ◌∷◌, ◌++◌, length, length-append, get_or, codes, not, arith, Option, Some, None}
use Rattle.std.specs.Prelude.{nat_le, nat_lt}
use Rattle.std.specs.List.{list_all}
use Rattle.std.specs.Char.{digit_value, is_not_whitespace, is_whitespace}
use Rattle.std.specs.Str.{NoCharPasses, EmptyOrStartsWithPassing, NonePass, all_ascii_digits}
use Rattle.std.specs.Str.Parse.{AllDigits, digits_value}
use Rattle.std.proofs.lemmas.Bool.{and_parts, leb-true, ltb-true}
use Rattle.std.proofs.lemmas.Bool.Decides.{nat_tests}
use Rattle.std.proofs.lemmas.Str.{NoCharPasses-byte, char_from_byte, cons_from_encodes, encode_ascii}
use Rattle.hek_rules.specs.Text.{number_of, is_number}
use Rattle.hek_convert_command.specs.declared.entry.Entry.{Entry}
use Rattle.hek_convert_command.specs.declared.entry.Entry.TheVariants.{Exchange as ExchangeOf, Over}
use Rattle.hek_convert_command.specs.declared.entry.Exchange.{Exchange}
use Rattle.hek_convert_command.specs.declared.entry.Side.{Side}
use Rattle.hek_convert_command.specs.declared.entry.Side.TheVariants.{Begin, End}
use Rattle.hek_convert_command.specs.declared.entry.WordName.{WordName}
use Rattle.hek_convert_command.specs.WordText.{IsWordText}
use Rattle.hek_convert_command.specs.Lines.{AreExchangeWords, AreNumbersOf, AreWordsOf, FirstWord, FirstWords, IsEntryOn, IsNameOf, after_word, side_text, spaced}

-- ---- bytes

-- printing ASCII
abbrev IsPlain : ℕ → Type 0
IsPlain b = (32 < b) × (b < 128)

plain_shows : (b : ℕ) → IsPlain b → is_whitespace b ≡ false
plain_shows b p = grind (arith, nat_tests)

abbrev ArePlain : List ℕ → Type 0
ArePlain [] = Unit {0}
ArePlain (b ∷ bs) = IsPlain b × ArePlain bs

record IsSolid (word : List ℕ) : Type 0 where
  some : 0 < length word
  plain : ArePlain word

-- no ASCII byte is white space
abbrev LacksSpace : List ℕ → Type 0
LacksSpace [] = Unit {0}
LacksSpace (c ∷ cs) = (c < 128 → is_whitespace c ≡ false) × LacksSpace cs

lacks : (xs : List ℕ) → ((i : ℕ) → i < length xs → get_or xs i 0 < 128 → is_whitespace (get_or xs i 0) ≡ false) → LacksSpace xs
lacks [] f = tt
lacks (c ∷ cs) f = (f 0 (omega arith), lacks cs (λ i h. f (suc i) (omega arith)))

-- what may stand behind a word
abbrev IsBehind : List ℕ → Type 0
IsBehind [] = Unit {0}
IsBehind (c ∷ cs) = c < 128 → is_whitespace c ≡ true

behind : (r more : List ℕ) → EmptyOrStartsWithPassing is_whitespace r more → IsBehind r
behind [] more e = tt
behind (c ∷ cs) more e = λ small.
    let p = e (omega arith) in
    let same : p.0 ≡ c = char_from_byte (c ∷ cs) more p.0 p.2 small (omega arith) in
    subst (λ (d : ℕ). is_whitespace d ≡ true) same p.1

-- nothing, or a space first
abbrev IsSpaceFirst : List ℕ → Type 0
IsSpaceFirst [] = Unit {0}
IsSpaceFirst (c ∷ cs) = c ≡ 32

after_space : (words : List (List ℕ)) → IsSpaceFirst (after_word words)
after_space [] = tt
after_space (word ∷ words) = refl

-- ---- where a word ends

split : (w x r s : List ℕ) → ArePlain w → LacksSpace x → IsBehind r → IsSpaceFirst s → x ++ r ≡ w ++ s → (x ≡ w) × (r ≡ s)
split [] [] r s p l b f e = (refl, e)
split [] (c ∷ cs) r [] p l b f e = cc
split [] (c ∷ cs) r (d ∷ ds) p l b f e =
    let is : c ≡ 32 = cc in
    let shows : is_whitespace 32 ≡ false = subst (λ (b : ℕ). is_whitespace b ≡ false) is (l.0 (omega arith)) in
    cc
split (a ∷ ws) [] [] s p l b f e = cc
split (a ∷ ws) [] (c ∷ cs) s p l b f e =
    let is : c ≡ a = cc in
    let small : c < 128 = omega arith in
    let shows : is_whitespace c ≡ false = subst (λ (b : ℕ). is_whitespace b ≡ false) (sym is) (plain_shows a p.0) in
    let blank : is_whitespace c ≡ true = b small in
    cc
split (a ∷ ws) (c ∷ cs) r s p l b f e =
    let is : c ≡ a = cc in
    let more : cs ++ r ≡ ws ++ s = cc in
    let rest = split ws cs r s p.1 l.1 b f more in
    let same : cs ≡ ws = rest.0 in
    (cc, rest.1)

-- a gap before a word
gap_then : (gap x r w s : List ℕ) → NoCharPasses is_not_whitespace gap → IsSolid w → LacksSpace x → IsBehind r → IsSpaceFirst s → gap ++ (x ++ r) ≡ w ++ s → (x ≡ w) × (r ≡ s)
gap_then [] x r w s blank solid l b f e = split w x r s solid.plain l b f e
gap_then (g ∷ gs) x r [] s blank solid l b f e = absurd (omega (arith, solid.some))
gap_then (g ∷ gs) x r (a ∷ ws) s blank solid l b f e =
    let is : g ≡ a = cc in
    let small : g < 128 = omega (arith, solid.plain.0) in
    let shows : is_whitespace g ≡ false = subst (λ (b : ℕ). is_whitespace b ≡ false) (sym is) (plain_shows a solid.plain.0) in
    let other : is_not_whitespace g ≡ false = NoCharPasses-byte is_not_whitespace (g ∷ gs) 0 blank (omega arith) small in
    let turned : is_not_whitespace g ≡ true = ap not shows in
    cc

-- a gap before a word that a space precedes
blank_tail : (gs : List ℕ) → NoCharPasses is_not_whitespace (32 ∷ gs) → NoCharPasses is_not_whitespace gs
blank_tail gs h =
    let parts = cons_from_encodes h.0 gs 32 (h.1 ∙ sym (ap (λ (xs : List ℕ). xs ++ gs) (encode_ascii 32 (omega arith)))) in
    let none : NonePass is_not_whitespace (32 ∷ parts.0) = subst (λ (cs : List ℕ). NonePass is_not_whitespace cs) parts.1 h.2 in
    (parts.0, parts.2, none.1)

space_then : (gap x r w s : List ℕ) → NoCharPasses is_not_whitespace gap → 0 < length x → IsSolid w → LacksSpace x → IsBehind r → IsSpaceFirst s → gap ++ (x ++ r) ≡ 32 ∷ (w ++ s)
    → (x ≡ w) × (r ≡ s)
space_then [] [] r w s blank some solid l b f e = absurd (omega arith)
space_then [] (c ∷ cs) r w s blank some solid l b f e =
    let is : c ≡ 32 = cc in
    let shows : is_whitespace 32 ≡ false = subst (λ (b : ℕ). is_whitespace b ≡ false) is (l.0 (omega arith)) in
    cc
space_then (g ∷ gs) x r w s blank some solid l b f e =
    let is : g ≡ 32 = cc in
    let more : gs ++ (x ++ r) ≡ w ++ s = cc in
    gap_then gs x r w s (blank_tail gs (subst (λ (c : ℕ). NoCharPasses is_not_whitespace (c ∷ gs)) is blank)) solid l b f more

-- ---- the words

abbrev AreSolid : List (List ℕ) → Type 0
AreSolid [] = Unit {0}
AreSolid (w ∷ ws) = IsSolid w × AreSolid ws

lacks_space : (x : List ℕ) → NoCharPasses is_whitespace x → LacksSpace x
lacks_space x dense = lacks x (λ i within small. NoCharPasses-byte is_whitespace x i dense within small)

first_is : (text x rest w s : List ℕ) → FirstWord text x rest → IsSolid w → IsSpaceFirst s → text ≡ w ++ s → (x ≡ w) × (rest ≡ s)
first_is text x rest w s h solid f e = gap_then h.gap x rest w s h.blank solid (lacks_space x h.dense) (behind rest h.more h.ends) f (sym h.is ∙ e)

later_is : (text x rest w s : List ℕ) → FirstWord text x rest → IsSolid w → IsSpaceFirst s → text ≡ 32 ∷ (w ++ s) → (x ≡ w) × (rest ≡ s)
later_is text x rest w s h solid f e = space_then h.gap x rest w s h.blank h.some solid (lacks_space x h.dense) (behind rest h.more h.ends) f (sym h.is ∙ e)

some_first : (text w s : List ℕ) → NoCharPasses is_not_whitespace text → IsSolid w → text ≡ w ++ s → ⊥
some_first text [] s blank solid e = absurd (omega (arith, solid.some))
some_first text (a ∷ ws) s blank solid e =
    let all : NoCharPasses is_not_whitespace (a ∷ (ws ++ s)) = subst (λ (xs : List ℕ). NoCharPasses is_not_whitespace xs) e blank in
    let small : a < 128 = omega (arith, solid.plain.0) in
    let shows : is_not_whitespace a ≡ true = ap not (plain_shows a solid.plain.0) in
    let other : is_not_whitespace a ≡ false = NoCharPasses-byte is_not_whitespace (a ∷ (ws ++ s)) 0 all (omega arith) small in
    cc

some_later : (text w s : List ℕ) → NoCharPasses is_not_whitespace text → IsSolid w → text ≡ 32 ∷ (w ++ s) → ⊥
some_later text w s blank solid e = some_first (w ++ s) w s (blank_tail (w ++ s) (subst (λ (xs : List ℕ). NoCharPasses is_not_whitespace xs) e blank)) solid refl

no_first : (text x rest : List ℕ) → FirstWord text x rest → text ≡ [] → ⊥
no_first text x rest h e =
    let none : 0 ≡ length (h.gap ++ (x ++ rest)) = ap length (sym e ∙ h.is) in
    absurd (omega (arith, none, h.some, length-append h.gap (x ++ rest), length-append x rest))

same_words : (x w : List ℕ) (xs ws : List (List ℕ)) → x ≡ w → xs ≡ ws → x ∷ xs ≡ w ∷ ws
same_words x w xs ws p q = cc

later_are : (n : ℕ) (ws xs : List (List ℕ)) (text : List ℕ) → AreSolid ws → length ws ≤ n → text ≡ after_word ws → FirstWords n text xs → xs ≡ ws
later_are zero [] [] text solid few e h = refl
later_are zero [] (x ∷ xs) text solid few e h = absurd h
later_are zero (w ∷ ws) xs text solid few e h = absurd (omega arith)
later_are (suc n) [] [] text solid few e h = refl
later_are (suc n) [] (x ∷ xs) text solid few e h = absurd (no_first text x h.0 h.1 e)
later_are (suc n) (w ∷ ws) [] text solid few e h = absurd (some_later text w (after_word ws) h solid.0 e)
later_are (suc n) (w ∷ ws) (x ∷ xs) text solid few e h =
    let parts = later_is text x h.0 w (after_word ws) h.1 solid.0 (after_space ws) e in
    same_words x w xs ws parts.0 (later_are n ws xs h.0 solid.1 (omega arith) parts.1 h.2)

spaced_are : (n : ℕ) (ws xs : List (List ℕ)) (text : List ℕ) → AreSolid ws → length ws ≤ suc n → text ≡ spaced ws → FirstWords (suc n) text xs → xs ≡ ws
spaced_are n [] [] text solid few e h = refl
spaced_are n [] (x ∷ xs) text solid few e h = absurd (no_first text x h.0 h.1 e)
spaced_are n (w ∷ ws) [] text solid few e h = absurd (some_first text w (after_word ws) h solid.0 e)
spaced_are n (w ∷ ws) (x ∷ xs) text solid few e h =
    let parts = first_is text x h.0 w (after_word ws) h.1 solid.0 (after_space ws) e in
    same_words x w xs ws parts.0 (later_are n ws xs h.0 solid.1 (omega arith) parts.1 h.2)

-- ---- the words of an exchange

hex_byte : (c : ℕ) → digit_value c < 16 → IsPlain c
hex_byte c h = (grind (arith, nat_tests), grind (arith, nat_tests))

hex_plain : (w : List ℕ) → AllDigits 16 w → ArePlain w
hex_plain [] h = tt
hex_plain (c ∷ cs) h = (hex_byte c h.0, hex_plain cs h.1)

hex_solid : (w : List ℕ) → IsWordText w → IsSolid w
hex_solid w h = record { some = omega (arith, h.long); plain = hex_plain w h.digits }

digits_plain : (w : List ℕ) → all_ascii_digits w ≡ true → ArePlain w
digits_plain [] h = tt
digits_plain (b ∷ bs) h =
    let both = and_parts _ (all_ascii_digits bs) h in
    let range = and_parts (leb 48 b) (leb b 57) both.0 in
    ((omega (arith, leb-true 48 b range.0), omega (arith, leb-true b 57 range.1)), digits_plain bs both.1)

is_given : (b : Bool) (m n : ℕ) → cond b (Some m) None ≡ Some n → b ≡ true
is_given true m n h = refl
is_given false m n h = cc

number_solid : (w : List ℕ) (n : ℕ) → number_of w ≡ Some n → IsSolid w
number_solid w n h =
    let is : is_number w ≡ true = is_given (is_number w) (digits_value 10 w) n h in
    let parts = and_parts ((nat_lt 0 (length w) && nat_le (length w) 20) && all_ascii_digits w) (nat_lt (digits_value 10 w) (2 ^ 64)) is in
    let both = and_parts (nat_lt 0 (length w) && nat_le (length w) 20) (all_ascii_digits w) parts.0 in
    let some = and_parts (nat_lt 0 (length w)) (nat_le (length w) 20) both.0 in
    record { some = ltb-true 0 (length w) some.0; plain = digits_plain w both.1 }

-- bytes whose test computes
plain_by : (bs : List ℕ) → list_all (λ b. nat_lt 32 b && nat_lt b 128) bs ≡ true → ArePlain bs
plain_by [] h = tt
plain_by (b ∷ bs) h =
    let both = and_parts (nat_lt 32 b && nat_lt b 128) (list_all (λ b. nat_lt 32 b && nat_lt b 128) bs) h in
    let range = and_parts (nat_lt 32 b) (nat_lt b 128) both.0 in
    ((ltb-true 32 b range.0, ltb-true b 128 range.1), plain_by bs both.1)

plain_then : (v w : List ℕ) → ArePlain v → ArePlain w → ArePlain (v ++ w)
plain_then [] w p q = q
plain_then (b ∷ bs) w p q = (p.0, plain_then bs w p.1 q)

side_plain : (side : Side) → ArePlain (side_text side)
side_plain Begin = plain_by (codes "begin-") refl
side_plain End = plain_by (codes "end-") refl

name_solid : (word : WordName) (text : List ℕ) → IsNameOf word text → IsSolid text
name_solid word text h =
    let digits = number_solid h.digits word.version h.version in
    record {
      some = omega (arith, ap length h.is, length-append (side_text word.side) h.digits, digits.some);
      plain = subst ArePlain (sym h.is) (plain_then (side_text word.side) h.digits (side_plain word.side) digits.plain);
    }

numbers_solid : (e : Exchange) (old new txn : List ℕ) → AreNumbersOf e old new txn → AreSolid (old ∷ new ∷ txn ∷ [])
numbers_solid e old new txn h = (hex_solid old h.is_old.is_word, (hex_solid new h.is_new.is_word, (number_solid txn e.txn h.is_txn, tt)))

exchange_solid : (e : Exchange) (ws : List (List ℕ)) → AreExchangeWords e ws → AreSolid ws × (length ws ≤ 5)
exchange_solid e [] h = absurd h
exchange_solid e (a ∷ []) h = absurd h
exchange_solid e (a ∷ b ∷ []) h = absurd h
exchange_solid e (a ∷ b ∷ c ∷ []) h = (numbers_solid e a b c h.1, omega arith)
exchange_solid e (a ∷ b ∷ c ∷ d ∷ []) h = ((name_solid h.0.0 a h.0.2, numbers_solid e b c d h.1), omega arith)
exchange_solid e (a ∷ b ∷ c ∷ d ∷ f ∷ ws) h = absurd h

over_solid : (word : List ℕ) → word ≡ codes "over" → IsSolid word
over_solid word is = subst IsSolid (sym is) (record { some = omega arith; plain = plain_by (codes "over") refl })

words_solid : (e : Entry) (ws : List (List ℕ)) → AreWordsOf e ws → AreSolid ws × (length ws ≤ 5)
words_solid (ExchangeOf e) ws h = exchange_solid e ws h
words_solid (Over t) [] h = absurd h
words_solid (Over t) (a ∷ []) h = absurd h
words_solid (Over t) (a ∷ b ∷ []) h = ((over_solid a h.0, (number_solid b t h.1, tt)), omega arith)
words_solid (Over t) (a ∷ b ∷ c ∷ ws) h = absurd h

-- the entry on a line of its words, with a space between each two
pub spaced_entry : (line : List ℕ) (found : Option Entry) → IsEntryOn line found → (e : Entry) (ws : List (List ℕ)) → AreWordsOf e ws → line ≡ spaced ws → found ≡ Some e
spaced_entry line found h e ws are is =
    let solid = words_solid e ws are in
    let same : h.words ≡ ws = spaced_are 4 ws h.words line solid.0 solid.1 is h.first in
    (h.is e).1 (subst (λ (words : List (List ℕ)). AreWordsOf e words) (sym same) are)
