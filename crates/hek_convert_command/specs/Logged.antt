-- The lines of a log of exchanges, as they are read.
use Rattle.std.specs.Prelude.{◌≡◌, ◌≢◌, ◌-◌, ◌^◌, ◌==◌, ℕ, min, Bool, true, false, List, [], ◌∷◌, ◌++◌, length, reverse, Option, Some, None}
use Rattle.hek_convert_command.specs.declared.entries.Listed.{Listed}
use Rattle.hek_convert_command.specs.declared.entry.Entry.{Entry}
use Rattle.hek_convert_command.specs.declared.entry.Entry.TheVariants.{Exchange as ExchangeOf, Over}
use Rattle.hek_convert_command.specs.Lines.{AreFullLines, AreLinesBefore, Full, IsEntryOn, full_lines, line_number}

-- lines with their entries, the latest first in both lists
abbrev pub AreListed : List Full → List Listed → Type 0
AreListed [] [] = Unit {0}
AreListed [] (listed ∷ earlier) = ⊥
AreListed (full ∷ lines) [] = ⊥
AreListed (full ∷ lines) (listed ∷ earlier) = (listed.number ≡ full.number) × IsEntryOn full.line listed.entry × AreListed lines earlier

-- these are the entries of the lines of a text that aren't blank, in their order
pub record AreEntriesOf (text : List ℕ) (listed : List Listed) : Type 0 where
  pub full : List Full
  pub lines : AreFullLines text full
  pub entries : AreListed full (reverse listed)

-- these are the entries of the lines of an input; of one whose bytes aren't known they may be any
abbrev pub IsRead : Option (List ℕ) → List Listed → Type 0
IsRead input listed = (text : List ℕ) → input ≡ Some text → AreEntriesOf text listed

-- of a text so many lines were read, whose entries these are, and so much is left
pub record HasRead (text : List ℕ) (left : Option (List ℕ)) (number : ℕ) (listed : List Listed) : Type 0 where
  pub lines : List (List ℕ)
  pub rest : List ℕ
  pub left_is : left ≡ Some rest
  pub before : AreLinesBefore text lines rest
  pub counted : number ≡ line_number (length lines)
  pub entries : AreListed (full_lines lines) (reverse listed)

-- a line is added to those that aren't blank
pub record AddsLine (number : ℕ) (line : List ℕ) (before after : List Listed) : Type 0 where
  pub blank : (length line == 0) ≡ true → after ≡ before
  pub full : (length line == 0) ≡ false → (entry : Option Entry) × IsEntryOn line entry × (after ≡ before ++ record { number = number; entry = entry } ∷ [])

-- whether a line says that a transaction is over
abbrev pub says_over : Option Entry → Bool
says_over None = false
says_over (Some (ExchangeOf e)) = false
says_over (Some (Over t)) = true
