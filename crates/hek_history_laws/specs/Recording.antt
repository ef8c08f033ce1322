-- Histories that record a transcript: the rows, and each committed transaction with the operations that were answered.
use Rattle.std.specs.Prelude.{ℕ, ◌≡◌, ◌<◌, ◌^◌, Bool, true, false, ◌&&◌, ◌==◌, if◌then◌else◌, List, [], Option, Some, None, map, filter, length, slice_get}
use Rattle.hek_rules.specs.declared.event.Event.{Event}
use Rattle.hek_rules.specs.declared.event.Event.TheVariants as event
use Rattle.hek_rules.specs.declared.reply.Reply.{Reply}
use Rattle.hek_rules.specs.declared.reply.Reply.TheVariants as reply
use Rattle.hek_rules.specs.Listing.{value_of, is_among}
use Rattle.hek_rules.specs.Recorded.{Recorded}
use Rattle.hek_rules.specs.Serial.{is_of, found_in, end_of, committed_in}
use Rattle.hek_rules.specs.Faults.{put_all}
use Rattle.hek_history.specs.declared.history.History.{History}
use Rattle.hek_history.specs.declared.history.Transaction.{Transaction}
use Rattle.hek_history.specs.declared.history.Operation.{Operation}
use Rattle.hek_history.specs.declared.history.Operation.TheVariants.{Read, Put, Insert, Update, Delete, Scan}
use Rattle.hek_history.specs.declared.history.Scope.TheVariants.{Range, Bucket}
use Rattle.hek_history.specs.declared.history.Level.TheVariants.{Serializable}
use Rattle.hek_history.specs.declared.history.Status.TheVariants.{Committed}
use Rattle.hek_history.specs.Histories.{transaction, is_committed}

-- The entry of a transcript that an operation of t is, by its answer: an event with its reply. A scan is of one of so many
-- buckets. No event puts a key whether or not it is there, and none scans a range.
abbrev pub entry_of : ℕ → ℕ → Operation → Option (Event × Reply)
entry_of buckets t (Read key found) = Some (event.Read t key, found_in found)
entry_of buckets t (Put key value) = None
entry_of buckets t (Insert key value done) = Some (event.Insert t key value, if done then reply.Done else reply.Exists)
entry_of buckets t (Update key value done) = Some (event.Update t key value, if done then reply.Done else reply.Absent)
entry_of buckets t (Delete key done) = Some (event.Delete t key, if done then reply.Done else reply.Absent)
entry_of buckets t (Scan (Range from to) pairs) = None
entry_of buckets t (Scan (Bucket count bucket) pairs) = if count == buckets then Some (event.Scan t bucket, reply.Rows pairs.items) else None

-- whether an event reads, scans or writes
abbrev pub is_operation : Event → Bool
is_operation (event.Read t key) = true
is_operation (event.Scan t bucket) = true
is_operation (event.Insert t key value) = true
is_operation (event.Update t key value) = true
is_operation (event.Delete t key) = true
is_operation e = false

-- whether a reply answers an operation: one that was refused, or aborted its transaction, has no answer
abbrev pub is_answer : Reply → Bool
is_answer (reply.Found value) = true
is_answer reply.Absent = true
is_answer (reply.Rows pairs) = true
is_answer reply.Done = true
is_answer reply.Exists = true
is_answer r = false

-- the operations of t that were answered, in order
abbrev pub answered : ℕ → List (Event × Reply) → List (Event × Reply)
answered t history = filter (λ (p : Event × Reply). is_of t p.0 && is_operation p.0 && is_answer p.1) history

-- t committed
abbrev pub HasCommitted : Recorded → ℕ → Type 0
HasCommitted s t = is_among (committed_in s.history) t ≡ true

-- x is the committed transaction t of the transcript, taken as serializable
pub record IsRunOf (s : Recorded) (t : ℕ) (x : Transaction) : Type 0 where
  pub level : x.level ≡ Serializable
  pub status : x.status ≡ Committed
  pub end : x.end ≡ end_of t s.history
  pub operations : map (entry_of s.buckets t) x.operations.items ≡ map Some (answered t s.history)

-- the history has a transaction at this place, which is t of the transcript
pub record IsRecordedAt (s : Recorded) (h : History) (i t : ℕ) : Type 0 where
  pub found : Transaction
  pub at : transaction h i ≡ Some found
  pub run : IsRunOf s t found

-- The history records the transcript: `place` says where each committed transaction is. Transactions that did not commit
-- may be in it too.
pub record Records (h : History) (place : ℕ → ℕ) (s : Recorded) : Type 0 where
  -- it has the rows of the transcript, in any order; if a key has several, the last
  pub rows : (key : ℕ) → value_of h.rows.items key ≡ value_of (put_all s.rows []) key
  -- each committed transaction is at its place
  pub committed : (t : ℕ) → HasCommitted s t → IsRecordedAt s h (place t) t
  -- no two are at one place
  pub apart : (t u : ℕ) → HasCommitted s t → HasCommitted s u → place t ≡ place u → t ≡ u
  -- no other is said to have committed
  pub others : (i : ℕ) → is_committed h i ≡ true → (t : ℕ) × HasCommitted s t × (place t ≡ i)

-- no list of the transcript is longer than a program's can be
pub record IsShort (s : Recorded) : Type 0 where
  pub rows : length (put_all s.rows []) < 2 ^ 63
  pub history : length s.history < 2 ^ 63
  pub scans : (i : ℕ) (e : Event) (pairs : List (ℕ × ℕ)) → slice_get s.history i ≡ Some (e, reply.Rows pairs) → length pairs < 2 ^ 63
