-- The two words of a version as records: which are words, their numbers, and how locks change them.
-- (Sections 2 and 4 of the paper: the fields of a version, record locks.)
use Rattle.std.specs.Prelude.{◌≡◌, ℕ, ◌+◌, ◌-◌, ◌*◌, ◌<◌, ◌^◌, ◌==◌, if◌then◌else◌, Bool, true, false, Option, Some, None, IsSome}
use Rattle.hek_rules.specs.declared.word.BeginRecord.{BeginRecord}
use Rattle.hek_rules.specs.declared.word.BeginRecord.TheVariants.{At, By}
use Rattle.hek_rules.specs.declared.word.EndRecord.{EndRecord}
use Rattle.hek_rules.specs.declared.word.EndRecord.TheVariants.{Until, Lock}
use Rattle.hek_rules.specs.declared.word.Dropped.{Dropped}
use Rattle.hek_rules.specs.declared.word.Dropped.TheVariants.{More, Free, Last}

-- a time that a word can hold
abbrev pub IsTime : ℕ → Type 0
IsTime t = t < 2 ^ 63

-- the time that never comes, the last that a word can hold
abbrev pub infinity : ℕ
infinity = 2 ^ 63 - 1

-- an ID that a word can name
abbrev pub IsTxn : ℕ → Type 0
IsTxn u = (0 < u) × (u + 1 < 2 ^ 54)

-- the records that a Begin word can hold
abbrev pub IsBegin : BeginRecord → Type 0
IsBegin (At t) = IsTime t
IsBegin (By u) = IsTxn u

-- the number of a Begin word: bit 63 says that a transaction is named
abbrev pub begin_number : BeginRecord → ℕ
begin_number (At t) = t
begin_number (By u) = 2 ^ 63 + u

abbrev pub begin_time : BeginRecord → Option ℕ
begin_time (At t) = Some t
begin_time (By u) = None

abbrev pub begin_txn : BeginRecord → Option ℕ
begin_txn (At t) = None
begin_txn (By u) = Some u

-- a lock has a reader or a writer; NoMoreReadLocks is set only under a writer without readers
abbrev pub IsHeld : ℕ → Option ℕ → Bool → Type 0
IsHeld readers None no_more = (0 < readers) × (no_more ≡ false)
IsHeld readers (Some u) no_more = IsTxn u × (no_more ≡ true → readers ≡ 0)

-- the records that an End word can hold: a time, or a lock of at most 255 readers
abbrev pub IsEnd : EndRecord → Type 0
IsEnd (Until t) = IsTime t
IsEnd (Lock readers writer no_more) = (readers < 256) × IsHeld readers writer no_more

-- bits 0 to 53 of a lock word: the writer, or all ones without a writer
abbrev pub writer_number : Option ℕ → ℕ
writer_number None = 2 ^ 54 - 1
writer_number (Some u) = u

abbrev pub flag_number : Bool → ℕ
flag_number true = 1
flag_number false = 0

-- the number of an End word: bit 63 marks a lock, bit 62 is NoMoreReadLocks, bits 54 to 61 are ReadLockCount
abbrev pub end_number : EndRecord → ℕ
end_number (Until t) = t
end_number (Lock readers writer no_more) =
    2 ^ 63 + 2 ^ 62 * flag_number no_more + 2 ^ 54 * readers + writer_number writer

abbrev pub end_time : EndRecord → Option ℕ
end_time (Until t) = Some t
end_time (Lock readers writer no_more) = None

abbrev pub readers_of : EndRecord → ℕ
readers_of (Until t) = 0
readers_of (Lock readers writer no_more) = readers

abbrev pub writer_of : EndRecord → Option ℕ
writer_of (Until t) = None
writer_of (Lock readers writer no_more) = writer

abbrev pub no_more_of : EndRecord → Bool
no_more_of (Until t) = false
no_more_of (Lock readers writer no_more) = no_more

-- a version takes another reader: it is free, or has fewer than 255 readers and NoMoreReadLocks clear
abbrev pub CanAdd : EndRecord → Type 0
CanAdd (Until t) = t ≡ infinity
CanAdd (Lock readers writer no_more) = (readers < 255) × (no_more ≡ false)

-- the End record after another reader comes
abbrev pub with_reader : EndRecord → EndRecord
with_reader (Until t) = Lock 1 None false
with_reader (Lock readers writer no_more) = Lock (readers + 1) writer no_more

-- the End record after the last reader goes: free without a writer; under a writer NoMoreReadLocks is set
abbrev pub after_last : Option ℕ → EndRecord
after_last None = Until infinity
after_last (Some u) = Lock 0 (Some u) true

-- the End record after a reader goes
abbrev pub without_reader : EndRecord → EndRecord
without_reader (Until t) = Until t
without_reader (Lock readers writer no_more) =
    if readers == 1 then after_last writer else Lock (readers - 1) writer no_more

abbrev pub last_of : Option ℕ → Dropped
last_of None = Free
last_of (Some u) = Last u

-- what a reader that goes leaves: more readers, a free version, or a writer that nobody reads under
abbrev pub dropped_of : EndRecord → Dropped
dropped_of (Until t) = More
dropped_of (Lock readers writer no_more) = if readers == 1 then last_of writer else More

-- a version takes a writer: it is free, or has readers and no writer
abbrev pub CanTakeWriter : EndRecord → Type 0
CanTakeWriter (Until t) = t ≡ infinity
CanTakeWriter (Lock readers writer no_more) = writer ≡ None

-- the End record after the writer u comes
abbrev pub with_writer : EndRecord → ℕ → EndRecord
with_writer (Until t) u = Lock 0 (Some u) false
with_writer (Lock readers writer no_more) u = Lock readers (Some u) no_more

-- the End record after the writer goes; NoMoreReadLocks goes with the writer
abbrev pub without_writer : EndRecord → EndRecord
without_writer (Until t) = Until t
without_writer (Lock readers writer no_more) = if readers == 0 then Until infinity else Lock readers None false

-- a lock of one reader and a writer
abbrev pub IsLastUnderWriter : EndRecord → Type 0
IsLastUnderWriter e = (readers_of e ≡ 1) × IsSome (writer_of e)

-- the writer's WaitForCounter after a reader goes: one less if that reader was the last
abbrev pub waits_less : Dropped → ℕ → ℕ
waits_less More waits = waits
waits_less Free waits = waits
waits_less (Last u) waits = waits - 1

abbrev pub waits_left : EndRecord → ℕ → ℕ
waits_left e waits = waits_less (dropped_of e) waits
