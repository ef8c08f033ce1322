-- A line has one list of words, and so at most one entry.
use Rattle.std.proofs.Common.{◌≡◌, refl, sym, ap, subst, ◌∙◌, ◌↔◌, ℕ, suc, zero, ◌<◌, true, false, List, [], ◌∷◌, ◌++◌, length, append_assoc, not, arith, Option, Some, None}
use Rattle.std.specs.Char.{is_not_whitespace, is_whitespace}
use Rattle.std.specs.Str.{IsUtf8, NoCharPasses, NonePass, EmptyOrStartsWithPassing}
use Rattle.std.proofs.lemmas.Str.{cons_from_encodes, encodes_same}
use lib.Utf8.{encode, encodes}
use Rattle.hek_convert_command.specs.declared.entry.Entry.{Entry}
use Rattle.hek_convert_command.specs.Lines.{AreWordsOf, FirstWord, FirstWords, IsEntryOn}

-- ---- the characters of a text

-- what is left behind some characters
strip : (cs ts rest : List ℕ) → encodes ts ≡ encodes cs ++ rest → (rs : List ℕ) × (ts ≡ cs ++ rs) × (encodes rs ≡ rest)
strip [] ts rest e = (ts, refl, e)
strip (c ∷ cs) ts rest e =
    let one = cons_from_encodes ts (encodes cs ++ rest) c (e ∙ append_assoc (encode c) (encodes cs) rest) in
    let more = strip cs one.0 rest one.2 in
    (more.0, one.1 ∙ ap (λ (xs : List ℕ). c ∷ xs) more.1, more.2)

-- nothing, or white space first
abbrev IsWhiteFirst : List ℕ → Type 0
IsWhiteFirst [] = Unit {0}
IsWhiteFirst (c ∷ cs) = is_whitespace c ≡ true

-- the characters before a word, those of the word, and the rest
record HasWord (ts : List ℕ) (word rest : List ℕ) : Type 0 where
  gap : List ℕ
  chars : List ℕ
  left : List ℕ
  is : ts ≡ gap ++ (chars ++ left)
  blank : NonePass is_not_whitespace gap
  dense : NonePass is_whitespace chars
  some : 0 < length chars
  ends : IsWhiteFirst left
  word_is : word ≡ encodes chars
  rest_is : rest ≡ encodes left

white_first : (rs rest more : List ℕ) → encodes rs ≡ rest → EmptyOrStartsWithPassing is_whitespace rest more → IsWhiteFirst rs
white_first rs [] more e h = subst IsWhiteFirst (sym (encodes_same rs [] e)) tt
white_first rs (b ∷ bs) more e h =
    let p = h (omega arith) in
    let one = cons_from_encodes rs more p.0 (e ∙ p.2) in
    subst IsWhiteFirst (sym one.1) p.1

some_chars : (cs word : List ℕ) → word ≡ encodes cs → 0 < length word → 0 < length cs
some_chars [] word e h = absurd (omega (arith, ap length e))
some_chars (c ∷ cs) word e h = omega arith

word_in : (ts text word rest : List ℕ) → encodes ts ≡ text → FirstWord text word rest → HasWord ts word rest
word_in ts text word rest e h =
    let first = strip h.blank.0 ts (word ++ rest) (e ∙ h.is ∙ ap (λ (xs : List ℕ). xs ++ (word ++ rest)) (sym h.blank.1)) in
    let second = strip h.dense.0 first.0 rest (first.2 ∙ ap (λ (xs : List ℕ). xs ++ rest) (sym h.dense.1)) in
    record {
      gap = h.blank.0;
      chars = h.dense.0;
      left = second.0;
      is = first.1 ∙ ap (λ (xs : List ℕ). h.blank.0 ++ xs) second.1;
      blank = h.blank.2;
      dense = h.dense.2;
      some = some_chars h.dense.0 word (sym h.dense.1) h.some;
      ends = white_first second.0 rest h.more second.2 h.ends;
      word_is = sym h.dense.1;
      rest_is = sym second.2;
    }

-- ---- where a word is

shows_not : (c : ℕ) → is_whitespace c ≡ false → is_not_whitespace c ≡ false → ⊥
shows_not c p q = let turned : is_not_whitespace c ≡ true = ap not p in cc

ends_same : (xs ys rs ss : List ℕ) → NonePass is_whitespace xs → NonePass is_whitespace ys → IsWhiteFirst rs → IsWhiteFirst ss → xs ++ rs ≡ ys ++ ss → (xs ≡ ys) × (rs ≡ ss)
ends_same [] [] rs ss p q a b e = (refl, e)
ends_same [] (y ∷ ys) [] ss p q a b e = cc
ends_same [] (y ∷ ys) (r ∷ rs) ss p q a b e =
    let is : r ≡ y = cc in
    let white : is_whitespace y ≡ true = subst (λ (c : ℕ). is_whitespace c ≡ true) is a in
    let shows : is_whitespace y ≡ false = q.0 in
    cc
ends_same (x ∷ xs) [] rs [] p q a b e = cc
ends_same (x ∷ xs) [] rs (s ∷ ss) p q a b e =
    let is : s ≡ x = cc in
    let white : is_whitespace x ≡ true = subst (λ (c : ℕ). is_whitespace c ≡ true) is b in
    let shows : is_whitespace x ≡ false = p.0 in
    cc
ends_same (x ∷ xs) (y ∷ ys) rs ss p q a b e =
    let more : xs ++ rs ≡ ys ++ ss = cc in
    let rest = ends_same xs ys rs ss p.1 q.1 a b more in
    let is : x ≡ y = cc in
    let same : xs ≡ ys = rest.0 in
    (cc, rest.1)

gaps_same : (g f xs ys rs ss : List ℕ) → NonePass is_not_whitespace g → NonePass is_not_whitespace f → NonePass is_whitespace xs → NonePass is_whitespace ys → 0 < length xs → 0 < length ys
    → IsWhiteFirst rs → IsWhiteFirst ss → g ++ (xs ++ rs) ≡ f ++ (ys ++ ss) → (xs ≡ ys) × (rs ≡ ss)
gaps_same [] [] xs ys rs ss k l p q m n a b e = ends_same xs ys rs ss p q a b e
gaps_same [] (f ∷ fs) [] ys rs ss k l p q m n a b e = absurd (omega arith)
gaps_same [] (f ∷ fs) (x ∷ xs) ys rs ss k l p q m n a b e =
    let is : f ≡ x = cc in
    absurd (shows_not x p.0 (subst (λ (c : ℕ). is_not_whitespace c ≡ false) is l.0))
gaps_same (g ∷ gs) [] xs [] rs ss k l p q m n a b e = absurd (omega arith)
gaps_same (g ∷ gs) [] xs (y ∷ ys) rs ss k l p q m n a b e =
    let is : g ≡ y = cc in
    absurd (shows_not y q.0 (subst (λ (c : ℕ). is_not_whitespace c ≡ false) is k.0))
gaps_same (g ∷ gs) (f ∷ fs) xs ys rs ss k l p q m n a b e =
    let more : gs ++ (xs ++ rs) ≡ fs ++ (ys ++ ss) = cc in
    gaps_same gs fs xs ys rs ss k.1 l.1 p q m n a b more

word_same : (ts text v w r s : List ℕ) → encodes ts ≡ text → FirstWord text v r → FirstWord text w s → (v ≡ w) × (r ≡ s) × ((rs : List ℕ) × (encodes rs ≡ r))
word_same ts text v w r s e p q =
    let a = word_in ts text v r e p in
    let b = word_in ts text w s e q in
    let same = gaps_same a.gap b.gap a.chars b.chars a.left b.left a.blank b.blank a.dense b.dense a.some b.some a.ends b.ends (sym a.is ∙ b.is) in
    (a.word_is ∙ ap encodes same.0 ∙ sym b.word_is, a.rest_is ∙ ap encodes same.1 ∙ sym b.rest_is, (a.left, sym a.rest_is))

none_after : (g xs : List ℕ) → NonePass is_not_whitespace (g ++ xs) → NonePass is_not_whitespace xs
none_after [] xs h = h
none_after (c ∷ g) xs h = none_after g xs h.1

white_word : (xs rs : List ℕ) → NonePass is_not_whitespace (xs ++ rs) → NonePass is_whitespace xs → 0 < length xs → ⊥
white_word [] rs p q some = absurd (omega arith)
white_word (c ∷ cs) rs p q some = shows_not c q.0 p.0

no_word_first : (ts text w r : List ℕ) → encodes ts ≡ text → NoCharPasses is_not_whitespace text → FirstWord text w r → ⊥
no_word_first ts text w r e h p =
    let a = word_in ts text w r e p in
    let all : h.0 ≡ a.gap ++ (a.chars ++ a.left) = encodes_same h.0 ts (h.1 ∙ sym e) ∙ a.is in
    white_word a.chars a.left (none_after a.gap (a.chars ++ a.left) (subst (λ (cs : List ℕ). NonePass is_not_whitespace cs) all h.2)) a.dense a.some

-- ---- the words of a line, and its entry

same_list : (x y : List ℕ) (xs ys : List (List ℕ)) → x ≡ y → xs ≡ ys → x ∷ xs ≡ y ∷ ys
same_list x y xs ys p q = cc

lists_same : (n : ℕ) (ts text : List ℕ) (xs ys : List (List ℕ)) → encodes ts ≡ text → FirstWords n text xs → FirstWords n text ys → xs ≡ ys
lists_same zero ts text [] [] e p q = refl
lists_same zero ts text [] (y ∷ ys) e p q = absurd q
lists_same zero ts text (x ∷ xs) ys e p q = absurd p
lists_same (suc n) ts text [] [] e p q = refl
lists_same (suc n) ts text [] (y ∷ ys) e p q = absurd (no_word_first ts text y q.0 e p q.1)
lists_same (suc n) ts text (x ∷ xs) [] e p q = absurd (no_word_first ts text x p.0 e q p.1)
lists_same (suc n) ts text (x ∷ xs) (y ∷ ys) e p q =
    let same = word_same ts text x y p.0 q.0 e p.1 q.1 in
    same_list x y xs ys same.0 (lists_same n same.2.0 p.0 xs ys same.2.1 p.2 (subst (λ (rest : List ℕ). FirstWords n rest ys) (sym same.1) q.2))

at_most_one : (a b : Option Entry) (words : List (List ℕ)) → ((e : Entry) → (a ≡ Some e) ↔ AreWordsOf e words) → ((e : Entry) → (b ≡ Some e) ↔ AreWordsOf e words) → a ≡ b
at_most_one None None words p q = refl
at_most_one None (Some e) words p q = (p e).1 ((q e).0 refl)
at_most_one (Some e) b words p q = sym ((q e).1 ((p e).0 refl))

-- a line has one entry, or none
pub one_entry : (line : List ℕ) (a b : Option Entry) → IsUtf8 line → IsEntryOn line a → IsEntryOn line b → a ≡ b
one_entry line a b u p q =
    let same : q.words ≡ p.words = lists_same 5 u.0 line q.words p.words u.1.1 q.first p.first in
    at_most_one a b p.words p.is (subst (λ (words : List (List ℕ)). (e : Entry) → (b ≡ Some e) ↔ AreWordsOf e words) same q.is)
