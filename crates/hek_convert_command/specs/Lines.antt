-- The lines of a text, and the entry on a line.
use Rattle.std.specs.Prelude.{◌≡◌, ◌↔◌, ℕ, suc, zero, ◌+◌, ◌-◌, ◌^◌, ◌<◌, min, ◌==◌, if◌then◌else◌, List, [], ◌∷◌, ◌++◌, length, codes, Option, Some, None}
use Rattle.std.specs.Char.{is_whitespace, is_not_whitespace}
use Rattle.std.specs.Str.{NoCharPasses, EmptyOrStartsWithPassing, trim}
use Rattle.std.specs.Str.Parse.{digits_value}
use Rattle.std.specs.Io.BufRead.{first_line, drop_through}
use Rattle.hek_rules.specs.Text.{number_of}
use Rattle.hek_convert_command.specs.WordText.{IsWordText}
use Rattle.hek_convert_command.specs.declared.entry.Entry.{Entry}
use Rattle.hek_convert_command.specs.declared.entry.Entry.TheVariants.{Exchange as ExchangeOf, Over}
use Rattle.hek_convert_command.specs.declared.entry.Exchange.{Exchange}
use Rattle.hek_convert_command.specs.declared.entry.Side.{Side}
use Rattle.hek_convert_command.specs.declared.entry.Side.TheVariants.{Begin, End}
use Rattle.hek_convert_command.specs.declared.entry.WordName.{WordName}

-- ---- the lines of a text

-- a text begins with these lines, the latest first, and then comes the rest
abbrev pub AreLinesBefore : List ℕ → List (List ℕ) → List ℕ → Type 0
AreLinesBefore text [] rest = text ≡ rest
AreLinesBefore text (latest ∷ earlier) rest =
    (left : List ℕ) × AreLinesBefore text earlier left × (0 < length left) × (latest ≡ first_line left) × (rest ≡ drop_through 10 left)

-- the number of a line, from 1, as far as 64 bits count
abbrev pub line_number : ℕ → ℕ
line_number n = min n (2 ^ 64 - 1)

-- a line that isn't blank: its number, and what it says without the white space around it
pub record Full : Type 0 where
  pub number : ℕ
  pub line : List ℕ

-- one more line with this number, unless it is blank
abbrev pub with_line : ℕ → List ℕ → List Full → List Full
with_line number line earlier = if length line == 0 then earlier else record { number = number; line = line } ∷ earlier

-- the lines that aren't blank
abbrev pub full_lines : List (List ℕ) → List Full
full_lines [] = []
full_lines (latest ∷ earlier) = with_line (line_number (length earlier + 1)) (trim latest) (full_lines earlier)

-- these are the lines of a text that aren't blank, the latest first
pub record AreFullLines (text : List ℕ) (full : List Full) : Type 0 where
  pub lines : List (List ℕ)
  pub all : AreLinesBefore text lines []
  pub is : full ≡ full_lines lines

-- ---- the words of a line

-- a text begins, behind white space, with a word, which ends at white space or with the text; behind it the rest is left
pub record FirstWord (text word rest : List ℕ) : Type 0 where
  pub gap : List ℕ
  pub is : text ≡ gap ++ (word ++ rest)
  pub some : 0 < length word
  pub blank : NoCharPasses is_not_whitespace gap
  pub dense : NoCharPasses is_whitespace word
  pub more : List ℕ
  pub ends : EmptyOrStartsWithPassing is_whitespace rest more

-- the first n words of a text, or all of them if it has fewer
abbrev pub FirstWords : ℕ → List ℕ → List (List ℕ) → Type 0
FirstWords zero text [] = Unit {0}
FirstWords zero text (word ∷ words) = ⊥
FirstWords (suc n) text [] = NoCharPasses is_not_whitespace text
FirstWords (suc n) text (word ∷ words) = (rest : List ℕ) × FirstWord text word rest × FirstWords n rest words

-- words, a space between each two
abbrev pub after_word : List (List ℕ) → List ℕ
after_word [] = []
after_word (word ∷ words) = 32 ∷ (word ++ after_word words)

abbrev pub spaced : List (List ℕ) → List ℕ
spaced [] = []
spaced (word ∷ words) = word ++ after_word words

-- ---- an exchange

abbrev pub side_text : Side → List ℕ
side_text Begin = codes "begin-"
side_text End = codes "end-"

-- a word of a version is named by its side and the index of the version
pub record IsNameOf (word : WordName) (text : List ℕ) : Type 0 where
  pub digits : List ℕ
  pub is : text ≡ side_text word.side ++ digits
  pub version : number_of digits ≡ Some word.version

-- 16 hexadecimal digits write a number
pub record IsWordOf (number : ℕ) (text : List ℕ) : Type 0 where
  pub is_word : IsWordText text
  pub value : digits_value 16 text ≡ number

-- the old number, the new number and the transaction of an exchange
pub record AreNumbersOf (e : Exchange) (old new txn : List ℕ) : Type 0 where
  pub is_old : IsWordOf e.old old
  pub is_new : IsWordOf e.new new
  pub is_txn : number_of txn ≡ Some e.txn

-- words are those of an exchange: OLD NEW TXN, or WORD OLD NEW TXN
abbrev pub AreExchangeWords : Exchange → List (List ℕ) → Type 0
AreExchangeWords e (old ∷ new ∷ txn ∷ []) = (e.word ≡ None) × AreNumbersOf e old new txn
AreExchangeWords e (name ∷ old ∷ new ∷ txn ∷ []) = ((word : WordName) × (e.word ≡ Some word) × IsNameOf word name) × AreNumbersOf e old new txn
AreExchangeWords e words = ⊥

-- words say that a transaction is over: over TXN
abbrev pub AreOverWords : ℕ → List (List ℕ) → Type 0
AreOverWords t (word ∷ txn ∷ []) = (word ≡ codes "over") × (number_of txn ≡ Some t)
AreOverWords t words = ⊥

abbrev pub AreWordsOf : Entry → List (List ℕ) → Type 0
AreWordsOf (ExchangeOf e) words = AreExchangeWords e words
AreWordsOf (Over t) words = AreOverWords t words

-- the entry on a line, if its words are those of one
pub record IsEntryOn (line : List ℕ) (found : Option Entry) : Type 0 where
  pub words : List (List ℕ)
  pub first : FirstWords 5 line words
  pub is : (e : Entry) → (found ≡ Some e) ↔ AreWordsOf e words
