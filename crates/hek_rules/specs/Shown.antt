-- The image of a world: each word, counter and list that a machine of that world shows; and the committed rows.
use Rattle.std.specs.Prelude.{ℕ, zero, suc, ◌==◌, if◌then◌else◌, Bool, true, false, ◌&&◌, not, nat_lt, List, [], Some, None, length}
use Rattle.hek_rules.specs.declared.event.WriteEntry.{WriteEntry}
use Rattle.hek_rules.specs.declared.word.BeginRecord.{BeginRecord}
use Rattle.hek_rules.specs.declared.word.BeginRecord.TheVariants.{At, By}
use Rattle.hek_rules.specs.declared.word.EndRecord.{EndRecord}
use Rattle.hek_rules.specs.declared.word.EndRecord.TheVariants.{Until, Lock}
use Rattle.hek_rules.specs.Words.{infinity}
use Rattle.hek_rules.specs.World.{World, Ender, EndedAt, Held, txn_in, version_in, places, is_committed}
use Rattle.hek_rules.specs.Waits.{readers}
use Rattle.hek_rules.specs.Listing.{firsts_of, seconds_of}
use Rattle.hek_rules.specs.Table.{pairs_of, entries_of}

-- ---- words

abbrev pub begin_word : World → ℕ → BeginRecord
begin_word w v = (version_in w.versions v).creator

-- the End word of a version with so many readers and no writer
abbrev pub readers_alone : ℕ → EndRecord
readers_alone zero = Until infinity
readers_alone (suc n) = Lock (suc n) None false

-- the End word of a version with `count` readers
abbrev pub end_word_by : ℕ → Ender → EndRecord
end_word_by count (EndedAt time) = Until time
end_word_by count (Held None no_more) = readers_alone count
end_word_by count (Held (Some u) no_more) = Lock count (Some u) no_more

abbrev pub end_word : World → ℕ → EndRecord
end_word w v = end_word_by (readers w.read_locks v) (version_in w.versions v).ender

-- the ender that an End word shows; infinity is a version that nobody ended
abbrev pub ender_of : EndRecord → Ender
ender_of (Until time) = if time == infinity then Held None false else EndedAt time
ender_of (Lock readers writer no_more) = Held writer no_more

-- ---- the lists and counters of a transaction

-- the versions that t read-locks
abbrev pub read_set : World → ℕ → List ℕ
read_set w t = seconds_of w.read_locks t

-- the versions that t made or ended
abbrev pub write_set : World → ℕ → List WriteEntry
write_set w t = entries_of w.writes t

-- the buckets that t locks
abbrev pub bucket_set : World → ℕ → List ℕ
bucket_set w t = seconds_of w.bucket_locks t

-- the transactions that wait for t because of a bucket: WaitingTxnList
abbrev pub waiting_list : World → ℕ → List ℕ
waiting_list w t = seconds_of w.waiters t

-- the transactions that depend on t: CommitDepSet
abbrev pub dependents_of : World → ℕ → List ℕ
dependents_of w t = seconds_of w.dependents t

-- ---- the lists and counters of a bucket

-- the transactions that lock the bucket: LockList
abbrev pub lock_list : World → ℕ → List ℕ
lock_list w b = firsts_of w.bucket_locks b

abbrev pub lock_count : World → ℕ → ℕ
lock_count w b = length (lock_list w b)

-- ---- committed rows

abbrev pub was_made : World → BeginRecord → Bool
was_made w (At time) = nat_lt time infinity
was_made w (By u) = is_committed (txn_in w.txns u).state

abbrev pub lasts : World → Ender → Bool
lasts w (EndedAt time) = false
lasts w (Held None no_more) = true
lasts w (Held (Some u) no_more) = not (is_committed (txn_in w.txns u).state)

-- the rows that the schedule or a committed transaction made and no committed transaction ended, by key
abbrev pub committed_rows : World → List (ℕ × ℕ)
committed_rows w = pairs_of w.versions [] (places (λ v x. was_made w x.creator && lasts w x.ender) 0 w.versions)
