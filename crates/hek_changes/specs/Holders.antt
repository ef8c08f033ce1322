-- Who holds the lock words of an engine, as its exchanges say, and what an exchange can do wrong by that.
use Rattle.std.specs.Prelude.{◌≡◌, ℕ, ◌-◌, ◌==◌, ◌&&◌, nat_lt, nat_le, if◌then◌else◌, Bool, true, false, List, [], ◌∷◌, ◌++◌, length, count_by, position, Option, Some, None}
use Rattle.std.specs.List.{list_any, swap_remove}
use Rattle.std.specs.Option.{option_map_or}
use Rattle.hek_rules.specs.declared.word.EndRecord.{EndRecord}
use Rattle.hek_rules.specs.declared.word.LockChange.{LockChange}
use Rattle.hek_rules.specs.declared.word.LockChange.TheVariants.{AddReader, DropReader, TakeWriter, ClearWriter}
use Rattle.hek_rules.specs.Words.{readers_of, writer_of}
use Rattle.hek_rules.specs.Holders.{reads_after, reads_after_all, writer_after_all}
use Rattle.hek_changes.specs.declared.change.EndChange.{EndChange}
use Rattle.hek_changes.specs.declared.change.EndChange.TheVariants.{ReaderCame, ReaderWent, WriterCame, WriterWent, Cleared, Stamped, ClearedThenRead, ClearedThenWritten, ReaderBecameWriter, ClearedThenReaderBecameWriter}
use Rattle.hek_changes.specs.declared.holders.HolderFault.{HolderFault}
use Rattle.hek_changes.specs.declared.holders.HolderFault.TheVariants.{WriterLives, NeverCame, CameTwice, IsOver}
use Rattle.hek_changes.specs.declared.holders.Standing.{Standing}
use Rattle.hek_changes.specs.Changes.{EndLeads}

-- the changes of the lock that an exchange by the transaction t is, in their order
abbrev pub changes_of : ℕ → EndChange → List LockChange
changes_of t ReaderCame = AddReader ∷ []
changes_of t ReaderWent = DropReader ∷ []
changes_of t WriterCame = TakeWriter t ∷ []
changes_of t WriterWent = ClearWriter ∷ []
changes_of t Cleared = ClearWriter ∷ []
changes_of t Stamped = ClearWriter ∷ []
changes_of t ClearedThenRead = ClearWriter ∷ AddReader ∷ []
changes_of t ClearedThenWritten = ClearWriter ∷ TakeWriter t ∷ []
changes_of t ReaderBecameWriter = DropReader ∷ TakeWriter t ∷ []
changes_of t ClearedThenReaderBecameWriter = ClearWriter ∷ DropReader ∷ TakeWriter t ∷ []

-- ---- the read locks of a word, each by its holder

-- how many of these the transaction u holds
abbrev pub reads_of : ℕ → List ℕ → ℕ
reads_of u readers = count_by (λ reader. reader == u) readers

-- without the first that the transaction t holds, if it holds one
abbrev pub without_one : ℕ → List ℕ → List ℕ
without_one t readers = option_map_or (λ i. swap_remove readers i 0) (position (λ reader. reader == t) readers) readers

-- after a change by the transaction t
abbrev pub readers_after : ℕ → LockChange → List ℕ → List ℕ
readers_after t AddReader readers = readers ++ t ∷ []
readers_after t DropReader readers = without_one t readers
readers_after t (TakeWriter u) readers = readers
readers_after t ClearWriter readers = readers

abbrev pub readers_after_all : ℕ → List LockChange → List ℕ → List ℕ
readers_after_all t [] readers = readers
readers_after_all t (c ∷ cs) readers = readers_after_all t cs (readers_after t c readers)

-- after an exchange by the transaction t, which is this change, or none
abbrev pub readers_then : ℕ → Option EndChange → List ℕ → List ℕ
readers_then t None readers = readers
readers_then t (Some c) readers = readers_after_all t (changes_of t c) readers

-- each list of read locks has a transaction as often as the changes of the lock say, and the fields of a word follow them too
pub record HoldersFollow : Type 0 where
  pub own : (t : ℕ) (c : LockChange) (readers : List ℕ) → reads_of t (readers_after t c readers) ≡ reads_after c (reads_of t readers)
  pub others : (t u : ℕ) (c : LockChange) (readers : List ℕ) → (u == t) ≡ false → reads_of u (readers_after t c readers) ≡ reads_of u readers
  pub count : (t : ℕ) (c : EndChange) (e f : EndRecord) → EndLeads t c e f → readers_of f ≡ reads_after_all (changes_of t c) (readers_of e)
  pub writer : (t : ℕ) (c : EndChange) (e f : EndRecord) → EndLeads t c e f → writer_of f ≡ writer_after_all (changes_of t c) (writer_of e)

-- ---- what an exchange does wrong

abbrev pub is_add : LockChange → Bool
is_add AddReader = true
is_add DropReader = false
is_add (TakeWriter u) = false
is_add ClearWriter = false

abbrev pub is_drop : LockChange → Bool
is_drop AddReader = false
is_drop DropReader = true
is_drop (TakeWriter u) = false
is_drop ClearWriter = false

abbrev pub is_clear : LockChange → Bool
is_clear AddReader = false
is_clear DropReader = false
is_clear (TakeWriter u) = false
is_clear ClearWriter = true

-- a lock is taken: as a reader or as the writer
abbrev pub is_taken : LockChange → Bool
is_taken AddReader = true
is_taken DropReader = false
is_taken (TakeWriter u) = true
is_taken ClearWriter = false

-- whether a change of an End word has such a change of the lock
abbrev pub has : (LockChange → Bool) → EndChange → Bool
has p c = list_any p (changes_of 0 c)

-- how many read locks the transaction t still holds when it takes a lock
abbrev pub held_before : ℕ → EndChange → List ℕ → ℕ
held_before t c readers = if has is_drop c then reads_of t readers - 1 else reads_of t readers

-- what an exchange by the transaction t does wrong, where these read locks of the word were known before, and the word counted so many.
-- Who goes may be a reader that isn't known, if the word counts more than are known
abbrev pub fault_of : ℕ → EndChange → ℕ → List ℕ → Standing → Option HolderFault
fault_of t c counted readers standing =
    if has is_clear c && standing.writer_lives then Some WriterLives
    else if has is_drop c && (reads_of t readers == 0 && nat_le counted (length readers)) then Some NeverCame
    else if has is_taken c && standing.is_over then Some IsOver
    else if has is_taken c && nat_lt 0 (held_before t c readers) then Some CameTwice
    else None
