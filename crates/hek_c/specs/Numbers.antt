-- Numbers of 64 bits as words: which record a number is the word of, or that it is the word of none.
use Rattle.std.specs.Prelude.{ℕ, Option, Some, None}
use Rattle.hek_rules.specs.declared.word.BeginRecord.{BeginRecord}
use Rattle.hek_rules.specs.declared.word.EndRecord.{EndRecord}
use Rattle.hek_changes.specs.Changes.{IsBeginOf, IsEndOf}

-- n is no Begin word
abbrev pub NoBegin : ℕ → Type 0
NoBegin n = (r : BeginRecord) → IsBeginOf r n → ⊥

-- n is no End word
abbrev pub NoEnd : ℕ → Type 0
NoEnd n = (r : EndRecord) → IsEndOf r n → ⊥

-- n is no End word of which P holds
abbrev pub NoEndThat : (EndRecord → Type 0) → ℕ → Type 0
NoEndThat P n = (r : EndRecord) → IsEndOf r n → P r → ⊥

-- the number, or d where there is none
abbrev pub number_or : ℕ → Option ℕ → ℕ
number_or d None = d
number_or d (Some n) = n
