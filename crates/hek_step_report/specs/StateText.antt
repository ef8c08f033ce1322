-- The lines of a state: of each version, each transaction, and each locked bucket.
use Rattle.std.specs.Prelude.{ℕ, zero, suc, ◌+◌, ◌/◌, ◌%◌, ◌-◌, ◌==◌, nat_lt, if◌then◌else◌, Bool, true, false, List, [], ◌∷◌, ◌++◌, codes, length, map, Option, Some, None}
use Rattle.std.specs.Fmt.{decimal}
use Rattle.std.specs.List.{slice_index_or}
use Rattle.hek_rules.specs.declared.event.Level.{Level}
use Rattle.hek_rules.specs.declared.event.Level.TheVariants.{Repeatable}
use Rattle.hek_rules.specs.declared.event.State.{State}
use Rattle.hek_rules.specs.declared.event.State.TheVariants.{NotBegun, Active, Preparing, Committed, Aborted, Terminated}
use Rattle.hek_rules.specs.declared.event.WriteEntry.{WriteEntry}
use Rattle.hek_rules.specs.declared.event.WriteEntry.TheVariants.{BeginOf, EndOf}
use Rattle.hek_rules.specs.declared.word.BeginRecord.{BeginRecord}
use Rattle.hek_rules.specs.declared.word.BeginRecord.TheVariants.{At, By}
use Rattle.hek_rules.specs.declared.word.EndRecord.{EndRecord}
use Rattle.hek_rules.specs.declared.word.EndRecord.TheVariants.{Until, Lock}
use Rattle.hek_rules.specs.Lines.{spaced}
use Rattle.hek_rules.specs.Names.{cause_word, level_word}
use Rattle.hek_rules.specs.Plan.{Plan, levels_of}
use Rattle.hek_rules.specs.Shown.{begin_word, end_word, read_set, write_set, bucket_set, waiting_list, dependents_of, lock_list, lock_count}
use Rattle.hek_rules.specs.Waits.{waits, commit_deps}
use Rattle.hek_rules.specs.Words.{infinity, begin_number, end_number}
use Rattle.hek_rules.specs.World.{World, Txn, declared, txn_in, version_in}
use Rattle.hek_asm.specs.Canonical.{name_at}
use Rattle.hek_step_report.specs.Clock.{clock_text}

-- ---- lists

-- what stands for the members of a list without any
abbrev pub none_text : ℕ → List ℕ
none_text zero = codes " none"
none_text (suc count) = []

-- a field with a list: its label, and its members, each with a space before it
abbrev pub list_field : {X : Type 0} → (X → List ℕ) → List ℕ → List X → List ℕ
list_field text label members = codes "; " ++ (label ++ (none_text (length members) ++ spaced (map text members)))

abbrev pub entry_text : WriteEntry → List ℕ
entry_text (BeginOf v) = codes "begin-" ++ decimal v
entry_text (EndOf v) = codes "end-" ++ decimal v

-- ---- buckets

-- a bucket without locks has no line
abbrev pub locks_line : ℕ → ℕ → List ℕ → List ℕ
locks_line bucket zero holders = []
locks_line bucket (suc others) holders = codes "bucket " ++ (decimal bucket ++ (codes ": locks " ++ (decimal (suc others) ++ (list_field decimal (codes "holders") holders ++ 10 ∷ []))))

abbrev pub bucket_line : World → ℕ → List ℕ
bucket_line w bucket = locks_line bucket (lock_count w bucket) (lock_list w bucket)

-- ---- words of versions

-- an upper-case hexadecimal digit
abbrev pub hex_digit : ℕ → ℕ
hex_digit n = if nat_lt n 10 then 48 + n else 55 + n

-- the last digits of a number in hexadecimal, as many as asked for
abbrev pub hex_text : ℕ → ℕ → List ℕ
hex_text zero n = []
hex_text (suc k) n = hex_text k (n / 16) ++ hex_digit (n % 16) ∷ []

-- all 16 digits of the number of a word
unfoldable pub word_text : ℕ → List ℕ
word_text n = hex_text 16 n

abbrev pub flag_text : Bool → List ℕ
flag_text true = codes "set"
flag_text false = codes "clear"

abbrev pub until_text : ℕ → List ℕ
until_text time = if time == infinity then codes "infinity" else codes "time " ++ decimal time

abbrev pub writer_text : Option ℕ → List ℕ
writer_text None = codes "none"
writer_text (Some u) = decimal u

abbrev pub begin_reading : BeginRecord → List ℕ
begin_reading (At time) = until_text time
begin_reading (By u) = codes "transaction " ++ decimal u

abbrev pub lock_reading : ℕ → Option ℕ → List ℕ
lock_reading readers writer = codes "lock readers " ++ (decimal readers ++ (codes " writer " ++ writer_text writer))

abbrev pub end_reading : EndRecord → List ℕ
end_reading (Until time) = until_text time
end_reading (Lock readers writer no_more) = lock_reading readers writer ++ (codes " no-more-reads " ++ flag_text no_more)

-- a word: its number in hexadecimal, and its reading
abbrev pub begin_field : BeginRecord → List ℕ
begin_field r = codes "; " ++ (word_text (begin_number r) ++ (codes " begin " ++ begin_reading r))

abbrev pub end_field : EndRecord → List ℕ
end_field r = codes "; " ++ (word_text (end_number r) ++ (codes " end " ++ end_reading r))

-- ---- versions

abbrev pub row_text : ℕ → ℕ → ℕ → List ℕ
row_text v key value = codes "version " ++ (decimal v ++ (codes ": key " ++ (decimal key ++ (codes " value " ++ decimal value))))

abbrev pub row_line : ℕ → ℕ → ℕ → BeginRecord → EndRecord → List ℕ
row_line v key value begin end = row_text v key value ++ (begin_field begin ++ (end_field end ++ 10 ∷ []))

abbrev pub version_line : World → ℕ → List ℕ
version_line w v = row_line v (version_in w.versions v).key (version_in w.versions v).value (begin_word w v) (end_word w v)

-- ---- transactions

abbrev pub phase_text : State → List ℕ
phase_text NotBegun = codes "not begun"
phase_text Active = codes "active"
phase_text Preparing = codes "preparing"
phase_text Committed = codes "committed"
phase_text (Aborted cause) = codes "aborted " ++ cause_word cause
phase_text Terminated = codes "terminated"

-- a time that a transaction draws; these begin at 1
abbrev pub drawn_text : ℕ → List ℕ
drawn_text zero = codes "none"
drawn_text (suc ticks) = decimal (suc ticks)

abbrev pub level_at : Plan → ℕ → Level
level_at p t = slice_index_or (levels_of p) (t - 1) Repeatable

abbrev pub txn_front : Plan → ℕ → List ℕ
txn_front p t = codes "txn " ++ (decimal t ++ (32 ∷ (name_at p t ++ (codes ": " ++ level_word (level_at p t)))))

abbrev pub phase_fields : Txn → List ℕ
phase_fields x = codes "; " ++ (phase_text x.state ++ (codes "; begin " ++ (drawn_text x.begin ++ (codes "; end " ++ drawn_text x.end))))

abbrev pub flags_text : Bool → Bool → List ℕ
flags_text no_more_waits abort_now = codes "; no-more-waits " ++ (flag_text no_more_waits ++ (codes "; abort-now " ++ flag_text abort_now))

abbrev pub flag_fields : Txn → List ℕ
flag_fields x = flags_text x.no_more_waits x.abort_now

abbrev pub counter_fields : World → ℕ → List ℕ
counter_fields w t = codes "; waits " ++ (decimal (waits w t) ++ (codes "; commits " ++ decimal (commit_deps w t)))

-- what a transaction holds: read locks, versions to stamp, bucket locks
abbrev pub held_fields : World → ℕ → List ℕ
held_fields w t =
    list_field decimal (codes "reads") (read_set w t)
    ++ (list_field entry_text (codes "writes") (write_set w t)
    ++ list_field decimal (codes "buckets") (bucket_set w t))

-- the transactions that wait for this one, and those that depend on it
abbrev pub other_fields : World → ℕ → List ℕ
other_fields w t =
    list_field decimal (codes "waiting") (waiting_list w t)
    ++ list_field decimal (codes "dependents") (dependents_of w t)

abbrev pub declared_line : Plan → World → ℕ → List ℕ
declared_line p w t =
    txn_front p t
    ++ (phase_fields (txn_in w.txns t)
    ++ (counter_fields w t
    ++ (flag_fields (txn_in w.txns t)
    ++ (held_fields w t
    ++ (other_fields w t
    ++ 10 ∷ [])))))

-- a transaction that the world doesn't have has no line
abbrev pub txn_line : Plan → World → ℕ → List ℕ
txn_line p w t = if declared w.txns t then declared_line p w t else []

-- ---- the whole state

-- the texts of so many numbers, from the first on
abbrev pub numbered : (ℕ → List ℕ) → ℕ → ℕ → List ℕ
numbered text first zero = []
numbered text first (suc count) = text first ++ numbered text (first + 1) count

abbrev pub version_lines : World → List ℕ
version_lines w = numbered (version_line w) 0 (length w.versions)

abbrev pub txn_lines : Plan → World → List ℕ
txn_lines p w = numbered (txn_line p w) 1 (length p.txns)

abbrev pub bucket_lines : World → List ℕ
bucket_lines w = numbered (bucket_line w) 0 w.buckets

-- the state without its clock
abbrev pub lines_of_state : Plan → World → List ℕ
lines_of_state p w = version_lines w ++ (txn_lines p w ++ bucket_lines w)

abbrev pub state_text : Plan → World → List ℕ
state_text p w = clock_text w.clock ++ lines_of_state p w
