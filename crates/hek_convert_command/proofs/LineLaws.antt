-- The words of a line, and the entry that they are.
use Rattle.std.proofs.Common.{◌≡◌, refl, sym, ◌∙◌, ◌↔◌, ℕ, suc, true, false, List, [], ◌∷◌, Option, Some, None, is_some, Bor}
use Rattle.std.specs.Str.Iter.{split_whitespace_rest, split_whitespace_steps}
use Rattle.std.specs.declared.str.SplitWhitespace.{SplitWhitespace}
use Rattle.std.specs.Option.{option_map}
use Rattle.hek_convert_command.specs.declared.entry.Entry.{Entry}
use Rattle.hek_convert_command.specs.declared.entry.Entry.TheVariants.{Exchange as ExchangeOf, Over}
use Rattle.hek_convert_command.specs.declared.entry.Exchange.{Exchange}
use Rattle.hek_convert_command.specs.declared.entry.WordName.{WordName}
use Rattle.hek_convert_command.specs.Lines.{AreExchangeWords, AreNumbersOf, AreOverWords, AreWordsOf, FirstWord, FirstWords, IsNameOf}

-- ---- the words of a line, as an iterator gives them

first_word : (s t : SplitWhitespace) (x : Bor (List ℕ)) → split_whitespace_steps s (Some x) t → FirstWord (split_whitespace_rest s) x.now (split_whitespace_rest t)
first_word s t x h = record { gap = h.0; is = h.1; some = h.2; blank = h.3; dense = h.4; more = h.5.0; ends = h.5.1 }

-- a word, and then those that follow it
pub word_then : (n : ℕ) (s t : SplitWhitespace) (x : Bor (List ℕ)) (words : List (List ℕ)) → split_whitespace_steps s (Some x) t → FirstWords n (split_whitespace_rest t) words
    → FirstWords (suc n) (split_whitespace_rest s) (x.now ∷ words)
word_then n s t x words h more = (split_whitespace_rest t, first_word s t x h, more)

-- no word
pub no_word : (n : ℕ) (s t : SplitWhitespace) → split_whitespace_steps s None t → FirstWords (suc n) (split_whitespace_rest s) []
no_word n s t h = h.1

pub not_one : (n : ℕ) (s t : SplitWhitespace) (r : Option (Bor (List ℕ))) → split_whitespace_steps s r t → is_some r ≡ false → FirstWords (suc n) (split_whitespace_rest s) []
not_one n s t None h is = h.1
not_one n s t (Some x) h is = cc

-- one word
pub one_more : (s t : SplitWhitespace) (r : Option (Bor (List ℕ))) → split_whitespace_steps s r t → is_some r ≡ true → (word : List ℕ) × FirstWords 1 (split_whitespace_rest s) (word ∷ [])
one_more s t None h is = cc
one_more s t (Some x) h is = (x.now, word_then 0 s t x [] h tt)

-- ---- the exchange of the words

-- the first of four words names no word of a version
pub no_name : (name old new txn : List ℕ) (found : Option Exchange) → found ≡ None → ((word : WordName) → (None ≡ Some word) ↔ IsNameOf word name)
    → (e : Exchange) → (found ≡ Some e) ↔ AreExchangeWords e (name ∷ old ∷ new ∷ txn ∷ [])
no_name name old new txn found none names e = (
  λ (is : found ≡ Some e). cc,
  λ (m : AreExchangeWords e (name ∷ old ∷ new ∷ txn ∷ [])). let is : None ≡ Some m.0.0 = (names m.0.0).1 m.0.2 in cc,
)

-- the first of four words names a word of a version
pub of_name : (name old new txn : List ℕ) (word : WordName) (found : Option Exchange) → ((named : WordName) → (Some word ≡ Some named) ↔ IsNameOf named name)
    → ((e : Exchange) → (found ≡ Some e) ↔ ((e.word ≡ Some word) × AreNumbersOf e old new txn)) → (e : Exchange) → (found ≡ Some e) ↔ AreExchangeWords e (name ∷ old ∷ new ∷ txn ∷ [])
of_name name old new txn word found names from e = (
  λ (is : found ≡ Some e). let parts = (from e).0 is in ((word, parts.0, (names word).0 refl), parts.1),
  λ (m : AreExchangeWords e (name ∷ old ∷ new ∷ txn ∷ [])). let same : Some word ≡ Some m.0.0 = (names m.0.0).1 m.0.2 in (from e).1 (m.0.1 ∙ sym same, m.1),
)

-- ---- the entry of the words

-- so few or so many words are those of no entry
pub none_of : (words : List (List ℕ)) → ((e : Entry) → AreWordsOf e words → ⊥) → (found : Option Entry) → found ≡ None → (e : Entry) → (found ≡ Some e) ↔ AreWordsOf e words
none_of words none found is e = (λ (some : found ≡ Some e). cc, λ (h : AreWordsOf e words). absurd (none e h))

pub one_word : (a : List ℕ) (e : Entry) → AreWordsOf e (a ∷ []) → ⊥
one_word a (ExchangeOf e) h = h
one_word a (Over t) h = h

pub five_words : (a b c d f : List ℕ) (e : Entry) → AreWordsOf e (a ∷ b ∷ c ∷ d ∷ f ∷ []) → ⊥
five_words a b c d f (ExchangeOf e) h = h
five_words a b c d f (Over t) h = h

-- words that say no transaction is over are those of an exchange, or of none
pub of_exchange : (words : List (List ℕ)) (exchange : Option Exchange) (found : Option Entry) → ((t : ℕ) → AreOverWords t words → ⊥) → ((e : Exchange) → (exchange ≡ Some e) ↔ AreExchangeWords e words)
    → found ≡ option_map ExchangeOf exchange → (e : Entry) → (found ≡ Some e) ↔ AreWordsOf e words
of_exchange words None found none h is (ExchangeOf e) = (λ (some : found ≡ Some (ExchangeOf e)). cc, λ (w : AreExchangeWords e words). let same : None ≡ Some e = (h e).1 w in cc)
of_exchange words None found none h is (Over t) = (λ (some : found ≡ Some (Over t)). cc, λ (w : AreOverWords t words). absurd (none t w))
of_exchange words (Some x) found none h is (ExchangeOf e) = (
  λ (some : found ≡ Some (ExchangeOf e)). let same : Some x ≡ Some e = cc in (h e).0 same,
  λ (w : AreExchangeWords e words). let same : Some x ≡ Some e = (h e).1 w in cc,
)
of_exchange words (Some x) found none h is (Over t) = (λ (some : found ≡ Some (Over t)). cc, λ (w : AreOverWords t words). absurd (none t w))

-- two words say that a transaction is over, or are those of no entry
pub of_over : (a b : List ℕ) (txn : Option ℕ) (found : Option Entry) → ((t : ℕ) → (txn ≡ Some t) ↔ AreOverWords t (a ∷ b ∷ [])) → found ≡ option_map Over txn
    → (e : Entry) → (found ≡ Some e) ↔ AreWordsOf e (a ∷ b ∷ [])
of_over a b None found h is (ExchangeOf e) = (λ (some : found ≡ Some (ExchangeOf e)). cc, λ w. absurd w)
of_over a b None found h is (Over t) = (λ (some : found ≡ Some (Over t)). cc, λ (w : AreOverWords t (a ∷ b ∷ [])). let same : None ≡ Some t = (h t).1 w in cc)
of_over a b (Some u) found h is (ExchangeOf e) = (λ (some : found ≡ Some (ExchangeOf e)). cc, λ w. absurd w)
of_over a b (Some u) found h is (Over t) = (
  λ (some : found ≡ Some (Over t)). let same : Some u ≡ Some t = cc in (h t).0 same,
  λ (w : AreOverWords t (a ∷ b ∷ [])). let same : Some u ≡ Some t = (h t).1 w in cc,
)
