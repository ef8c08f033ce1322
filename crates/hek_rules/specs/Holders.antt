-- Who holds a record lock: what a change of the lock does to its holders. (Section 4 of the paper: record locks.)
use Rattle.std.specs.Prelude.{ℕ, ◌+◌, ◌-◌, List, [], ◌∷◌, Option, Some, None}
use Rattle.hek_rules.specs.declared.word.LockChange.{LockChange}
use Rattle.hek_rules.specs.declared.word.LockChange.TheVariants.{AddReader, DropReader, TakeWriter, ClearWriter}

-- how many read locks of a version are held after a change, of all transactions or of the one that makes the change; where none is
-- held, none can go
abbrev pub reads_after : LockChange → ℕ → ℕ
reads_after AddReader n = n + 1
reads_after DropReader n = n - 1
reads_after (TakeWriter u) n = n
reads_after ClearWriter n = n

-- who write-locks a version after a change
abbrev pub writer_after : LockChange → Option ℕ → Option ℕ
writer_after AddReader writer = writer
writer_after DropReader writer = writer
writer_after (TakeWriter u) writer = Some u
writer_after ClearWriter writer = None

-- the same after changes, one after another
abbrev pub reads_after_all : List LockChange → ℕ → ℕ
reads_after_all [] n = n
reads_after_all (c ∷ cs) n = reads_after_all cs (reads_after c n)

abbrev pub writer_after_all : List LockChange → Option ℕ → Option ℕ
writer_after_all [] writer = writer
writer_after_all (c ∷ cs) writer = writer_after_all cs (writer_after c writer)
