-- What the lock calls refuse and change, over words and transactions.
-- (Section 4 of the paper: record locks, wait-for dependencies.)
use Rattle.std.specs.Prelude.{ℕ, ◌+◌, ◌-◌, ◌^◌, ◌<◌, ◌==◌, ◌||◌, nat_lt, nat_eq, Bool, false, if◌then◌else◌, List, Option, Some, None, Result, Ok, Err}
use Rattle.hek_txn.specs.Entries.{joined}
use Rattle.hek_rules.specs.declared.word.EndRecord.{EndRecord}
use Rattle.hek_rules.specs.declared.word.EndRecord.TheVariants.{Until, Lock}
use Rattle.hek_rules.specs.declared.word.Dropped.{Dropped}
use Rattle.hek_rules.specs.declared.word.Dropped.TheVariants.{More, Free, Last}
use Rattle.hek_rules.specs.declared.event.Cause.{Cause}
use Rattle.hek_rules.specs.Words.{without_reader, with_reader, with_writer, without_writer, readers_of}
use Rattle.hek_rules.specs.World.{Txn, txn_in, is_made_by, is_aborted}
use Rattle.hek_rules.specs.Listing.{is_among}
use Rattle.hek_rules.specs.Shown.{ender_of}
use Rattle.hek_rules.specs.Locks.{read_refusal, write_refusal}
use Rattle.hek_store.specs.Stored.{Stored, version_at, with_end_word}
use Rattle.hek_txn.specs.TxnTable.{TxnTable, Declared, waits_of, with_waits, read_set_of}

-- the writer of a word, if it has one, is declared
abbrev pub KnowsWriter : TxnTable → EndRecord → Type 0
KnowsWriter ts (Until time) = Unit {0}
KnowsWriter ts (Lock readers None no_more) = Unit {0}
KnowsWriter ts (Lock readers (Some u) no_more) = Declared ts u

-- ---- wait counters

abbrev pub fewer_waits : TxnTable → ℕ → TxnTable
fewer_waits ts u = with_waits ts u (waits_of ts u - 1)

abbrev pub more_waits : TxnTable → ℕ → TxnTable
more_waits ts u = with_waits ts u (waits_of ts u + 1)

-- the table after the writer of a word is gone: if the word has readers, that writer waits for one version less
abbrev pub writer_freed : TxnTable → EndRecord → TxnTable
writer_freed ts (Until time) = ts
writer_freed ts (Lock readers None no_more) = ts
writer_freed ts (Lock readers (Some u) no_more) = if nat_lt 0 readers then fewer_waits ts u else ts

-- the writer of a word with readers waits for something, so that its counter can fall
abbrev pub CanFree : TxnTable → EndRecord → Type 0
CanFree ts (Until time) = Unit {0}
CanFree ts (Lock readers None no_more) = Unit {0}
CanFree ts (Lock readers (Some u) no_more) = Declared ts u × (0 < readers → 0 < waits_of ts u)

-- ---- Clear: an aborted writer is gone

abbrev pub is_stale : List Txn → EndRecord → Bool
is_stale ts (Until time) = false
is_stale ts (Lock readers None no_more) = false
is_stale ts (Lock readers (Some u) no_more) = is_aborted (txn_in ts u).state

abbrev pub cleared_word : List Txn → EndRecord → EndRecord
cleared_word ts e = if is_stale ts e then without_writer e else e

abbrev pub cleared_waits : TxnTable → EndRecord → TxnTable
cleared_waits ts e = if is_stale ts.cores e then writer_freed ts e else ts

-- ---- read locks

-- t made the version, or read-locks it already
abbrev pub reads_freely : Stored → TxnTable → ℕ → ℕ → Bool
reads_freely s ts t v = is_made_by t (version_at s v).begin || is_among (read_set_of ts t).items v

-- why a word refuses a read lock, if it does
abbrev pub word_refusal : List Txn → EndRecord → Option Cause
word_refusal ts e = read_refusal ts (readers_of e) (ender_of e)

abbrev pub read_refused : Stored → TxnTable → ℕ → ℕ → Option Cause
read_refused s ts t v =
    if reads_freely s ts t v then None else word_refusal ts.cores (cleared_word ts.cores (version_at s v).end)

-- the table after a reader comes: the writer of a word without readers waits for one version more
abbrev pub writer_waits : TxnTable → EndRecord → TxnTable
writer_waits ts (Until time) = ts
writer_waits ts (Lock readers None no_more) = ts
writer_waits ts (Lock readers (Some u) no_more) = if readers == 0 then more_waits ts u else ts

-- the WaitForCounter of a word's writer can rise by one
abbrev pub CanWait : TxnTable → EndRecord → Type 0
CanWait ts (Until time) = Unit {0}
CanWait ts (Lock readers None no_more) = Unit {0}
CanWait ts (Lock readers (Some u) no_more) = Declared ts u × (waits_of ts u + 1 < 2 ^ 64)

abbrev pub read_locked : Stored → TxnTable → ℕ → ℕ → Stored
read_locked s ts t v =
    if reads_freely s ts t v then s else with_end_word s v (with_reader (cleared_word ts.cores (version_at s v).end))

abbrev pub read_lock_waits : Stored → TxnTable → ℕ → ℕ → TxnTable
read_lock_waits s ts t v =
    if reads_freely s ts t v then ts
    else writer_waits (cleared_waits ts (version_at s v).end) (cleared_word ts.cores (version_at s v).end)

abbrev pub read_lock_reads : Stored → TxnTable → ℕ → ℕ → List ℕ
read_lock_reads s ts t v =
    if reads_freely s ts t v then (read_set_of ts t).items else joined nat_eq (read_set_of ts t).items v

-- ---- write locks

abbrev pub write_refused : Stored → TxnTable → ℕ → Option Cause
write_refused s ts v = write_refusal (ender_of (cleared_word ts.cores (version_at s v).end))

-- the word without t's read lock
abbrev pub given_up : TxnTable → ℕ → ℕ → EndRecord → EndRecord
given_up ts t v e = if is_among (read_set_of ts t).items v then without_reader e else e

-- the word that t write-locks: without an aborted writer and without t's read lock
abbrev pub to_write : Stored → TxnTable → ℕ → ℕ → EndRecord
to_write s ts t v = given_up ts t v (cleared_word ts.cores (version_at s v).end)

abbrev pub write_locked : Stored → TxnTable → ℕ → ℕ → Stored
write_locked s ts t v = with_end_word s v (with_writer (to_write s ts t v) t)

-- the table after t takes the write lock: t waits for the readers that are left
abbrev pub write_lock_waits : Stored → TxnTable → ℕ → ℕ → TxnTable
write_lock_waits s ts t v =
    let freed = cleared_waits ts (version_at s v).end in
    if nat_lt 0 (readers_of (to_write s ts t v)) then more_waits freed t else freed

-- ---- release

-- the table after a reader goes: the writer of a version without readers waits for one version less
abbrev pub after_drop : Dropped → TxnTable → TxnTable
after_drop More ts = ts
after_drop Free ts = ts
after_drop (Last u) ts = fewer_waits ts u

-- the writer of a version whose last reader went
abbrev pub left_writer : Dropped → Option ℕ
left_writer More = None
left_writer Free = None
left_writer (Last u) = Some u

abbrev pub CanTell : TxnTable → Dropped → Type 0
CanTell ts More = Unit {0}
CanTell ts Free = Unit {0}
CanTell ts (Last u) = Declared ts u × (0 < waits_of ts u)

-- a refusal as an error
abbrev pub answer_of : Option Cause → Result (Unit {0}) Cause
answer_of None = Ok tt
answer_of (Some cause) = Err cause
