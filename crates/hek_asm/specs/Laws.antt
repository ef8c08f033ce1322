-- What the definition of canonical texts means.
use Rattle.std.specs.Prelude.{◌≡◌, ℕ, ◌<◌, false, List, length, get_or, Ok}
use Rattle.std.specs.List.{AllByRecursion, flat_map}
use Rattle.hek_rules.specs.Plan.{Plan, IsPlan}
use Rattle.hek_rules.specs.Text.{is_line_end, ends_word}
use Rattle.hek_rules.specs.Lines.{line_text}
use Rattle.hek_asm.specs.Text.{schedule_of}
use Rattle.hek_asm.specs.Canonical.{canonical_text}

-- a byte that is no blank, no '#' and no LF
abbrev pub IsWordByte : ℕ → Type 0
IsWordByte b = (ends_word b ≡ false) × (is_line_end b ≡ false)

-- a word without a leading zero
pub record IsTidyWord (w : List ℕ) : Type 0 where
  pub some : 0 < length w
  pub bytes : AllByRecursion IsWordByte w
  pub zero : get_or w 0 0 ≡ 48 → length w ≡ 1

-- a line with words
abbrev pub IsTidyLine : List (List ℕ) → Type 0
IsTidyLine ws = (0 < length ws) × AllByRecursion IsTidyWord ws

-- a text without comments, empty lines and leading zeros, with one space between words and LF at the end of each line
pub record IsTidy (text : List ℕ) : Type 0 where
  pub lines : List (List (List ℕ))
  pub form : AllByRecursion IsTidyLine lines
  pub written : text ≡ flat_map line_text lines

-- the canonical text of a schedule is a tidy text of it, and the only one
pub record CanonicalIsExact : Type 0 where
  pub again : (p : Plan) → IsPlan p → schedule_of (canonical_text p) ≡ Ok p
  pub tidy : (p : Plan) → IsPlan p → IsTidy (canonical_text p)
  pub only : (p : Plan) (text : List ℕ) → IsTidy text → schedule_of text ≡ Ok p → text ≡ canonical_text p
