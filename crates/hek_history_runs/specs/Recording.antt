-- Histories that record a transcript with each committed transaction at its own level.
use Rattle.std.specs.Prelude.{ℕ, ◌≡◌, true, [], Some, map}
use Rattle.hek_rules.specs.declared.event.Level.{Level}
use Rattle.hek_rules.specs.declared.event.Level.TheVariants as engine
use Rattle.hek_rules.specs.Listing.{value_of}
use Rattle.hek_rules.specs.Recorded.{Recorded}
use Rattle.hek_rules.specs.Serial.{begin_of, end_of}
use Rattle.hek_rules.specs.Faults.{level_of, put_all}
use Rattle.hek_history.specs.declared.history.History.{History}
use Rattle.hek_history.specs.declared.history.Transaction.{Transaction}
use Rattle.hek_history.specs.declared.history.Level.{Level as HistoryLevel}
use Rattle.hek_history.specs.declared.history.Level.TheVariants.{Serializable, Snapshot, Repeatable}
use Rattle.hek_history.specs.declared.history.Status.TheVariants.{Committed}
use Rattle.hek_history.specs.Histories.{transaction, is_committed}
use Rattle.hek_history_laws.specs.Recording.{entry_of, answered, HasCommitted}

-- the level of the same name
abbrev pub same_level : Level → HistoryLevel
same_level engine.Serializable = Serializable
same_level engine.Snapshot = Snapshot
same_level engine.Repeatable = Repeatable

-- x is the committed transaction t of the transcript, at its own level, with its times and exactly its operations that were
-- answered
pub record IsRunOf (s : Recorded) (t : ℕ) (x : Transaction) : Type 0 where
  pub level : (level : Level) → level_of s.levels t ≡ Some level → x.level ≡ same_level level
  pub status : x.status ≡ Committed
  pub begin : x.begin ≡ begin_of t s.history
  pub end : x.end ≡ end_of t s.history
  pub operations : map (entry_of s.buckets t) x.operations.items ≡ map Some (answered t s.history)

-- the history has a transaction at this place, which is t of the transcript
pub record IsRecordedAt (s : Recorded) (h : History) (i t : ℕ) : Type 0 where
  pub found : Transaction
  pub at : transaction h i ≡ Some found
  pub run : IsRunOf s t found

-- The history records the transcript: `place` says where each committed transaction is. Transactions that did not commit may be in
-- it too.
pub record Records (h : History) (place : ℕ → ℕ) (s : Recorded) : Type 0 where
  -- it has the rows of the transcript, in any order; if a key has several, the last
  pub rows : (key : ℕ) → value_of h.rows.items key ≡ value_of (put_all s.rows []) key
  -- each committed transaction is at its place
  pub committed : (t : ℕ) → HasCommitted s t → IsRecordedAt s h (place t) t
  -- no two are at one place
  pub apart : (t u : ℕ) → HasCommitted s t → HasCommitted s u → place t ≡ place u → t ≡ u
  -- no other is said to have committed
  pub others : (i : ℕ) → is_committed h i ≡ true → (t : ℕ) × HasCommitted s t × (place t ≡ i)
