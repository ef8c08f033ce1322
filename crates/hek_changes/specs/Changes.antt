-- Which changes lead from a record e of a word to a record f, as a transaction t makes them by one exchange.
-- (Section 4 of the paper: record locks; section 2: the words after the end of a transaction.)
use Rattle.std.specs.Prelude.{◌≡◌, ◌≢◌, ◌↔◌, ℕ, ◌<◌, Option, Some, IsSome}
use Rattle.hek_rules.specs.declared.word.BeginRecord.{BeginRecord}
use Rattle.hek_rules.specs.declared.word.BeginRecord.TheVariants.{At, By}
use Rattle.hek_rules.specs.declared.word.EndRecord.{EndRecord}
use Rattle.hek_rules.specs.declared.word.EndRecord.TheVariants.{Until, Lock}
use Rattle.hek_rules.specs.Words.{IsBegin, IsEnd, begin_number, end_number, infinity, readers_of, writer_of, CanAdd, CanTakeWriter, with_reader, without_reader, with_writer, without_writer}
use Rattle.hek_changes.specs.declared.change.BeginChange.{BeginChange}
use Rattle.hek_changes.specs.declared.change.EndChange.{EndChange}
use Rattle.hek_changes.specs.declared.change.BeginChange.TheVariants as on_begin
use Rattle.hek_changes.specs.declared.change.EndChange.TheVariants as on_end

-- a time that a transaction can draw at its end
abbrev pub IsDrawn : ℕ → Type 0
IsDrawn time = (0 < time) × (time < infinity)

abbrev pub BeginLeads : ℕ → BeginChange → BeginRecord → BeginRecord → Type 0
BeginLeads t on_begin.Stamped (By u) (At time) = (u ≡ t) × IsDrawn time
BeginLeads t on_begin.Voided (By u) (At time) = (u ≡ t) × (time ≡ infinity)
BeginLeads t c e f = ⊥

-- t is not the writer of e: a transaction holds no read lock of a version that it writes over
abbrev pub IsNotWriter : ℕ → EndRecord → Type 0
IsNotWriter t e = writer_of e ≢ Some t

-- e has a writer, which is not t
abbrev pub IsAnothers : ℕ → EndRecord → Type 0
IsAnothers t e = IsSome (writer_of e) × IsNotWriter t e

-- nobody reads under the writer of e, which is t, and f is the time that t drew
abbrev pub IsStamped : ℕ → EndRecord → EndRecord → Type 0
IsStamped t e (Until time) = (writer_of e ≡ Some t) × (readers_of e ≡ 0) × IsDrawn time
IsStamped t e (Lock readers writer no_more) = ⊥

abbrev pub EndLeads : ℕ → EndChange → EndRecord → EndRecord → Type 0
EndLeads t on_end.ReaderCame e f = IsNotWriter t e × CanAdd e × (f ≡ with_reader e)
EndLeads t on_end.ReaderWent e f = IsNotWriter t e × (0 < readers_of e) × (f ≡ without_reader e)
EndLeads t on_end.WriterCame e f = CanTakeWriter e × (f ≡ with_writer e t)
EndLeads t on_end.WriterWent e f = (writer_of e ≡ Some t) × (f ≡ without_writer e)
EndLeads t on_end.Cleared e f = IsAnothers t e × (f ≡ without_writer e)
EndLeads t on_end.Stamped e f = IsStamped t e f
EndLeads t on_end.ClearedThenRead e f =
    IsAnothers t e × CanAdd (without_writer e) × (f ≡ with_reader (without_writer e))
EndLeads t on_end.ClearedThenWritten e f = IsAnothers t e × (f ≡ with_writer (without_writer e) t)
EndLeads t on_end.ReaderBecameWriter e f =
    CanTakeWriter e × (0 < readers_of e) × (f ≡ with_writer (without_reader e) t)
EndLeads t on_end.ClearedThenReaderBecameWriter e f =
    IsAnothers t e × (0 < readers_of e) × (f ≡ with_writer (without_reader (without_writer e)) t)

-- ---- numbers of 64 bits, as words

-- n is the Begin word of r
abbrev pub IsBeginOf : BeginRecord → ℕ → Type 0
IsBeginOf r n = IsBegin r × (begin_number r ≡ n)

-- n is the End word of r
abbrev pub IsEndOf : EndRecord → ℕ → Type 0
IsEndOf r n = IsEnd r × (end_number r ≡ n)

-- both numbers are Begin words, and this change of the transaction t leads from the old one to the new one
pub record BeginMoves (t old new : ℕ) (c : BeginChange) : Type 0 where
  pub before : BeginRecord
  pub after : BeginRecord
  pub is_old : IsBeginOf before old
  pub is_new : IsBeginOf after new
  pub leads : BeginLeads t c before after

-- both numbers are End words, and this change of the transaction t leads from the old one to the new one
pub record EndMoves (t old new : ℕ) (c : EndChange) : Type 0 where
  pub before : EndRecord
  pub after : EndRecord
  pub is_old : IsEndOf before old
  pub is_new : IsEndOf after new
  pub leads : EndLeads t c before after

-- the change of a Begin word that an exchange by the transaction t is, or none if it is none
abbrev pub IsBeginChange : ℕ → ℕ → ℕ → Option BeginChange → Type 0
IsBeginChange t old new found = (c : BeginChange) → (found ≡ Some c) ↔ BeginMoves t old new c

-- the change of an End word that an exchange by the transaction t is, or none if it is none
abbrev pub IsEndChange : ℕ → ℕ → ℕ → Option EndChange → Type 0
IsEndChange t old new found = (c : EndChange) → (found ≡ Some c) ↔ EndMoves t old new c
