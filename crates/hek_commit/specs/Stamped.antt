-- Stamps: what the stamp of one entry of a write set changes, and its reply.
-- (Section 2 of the paper: postprocessing.)
use Rattle.std.specs.Prelude.{ℕ, ◌<◌, Bool, false, ◌==◌, if◌then◌else◌, List, [], ◌∷◌, length, Option, Some, None}
use Rattle.hek_rules.specs.declared.event.WriteEntry.{WriteEntry}
use Rattle.hek_rules.specs.declared.event.WriteEntry.TheVariants.{BeginOf, EndOf}
use Rattle.hek_rules.specs.declared.reply.Reply.{Reply}
use Rattle.hek_rules.specs.declared.reply.Reply.TheVariants as reply
use Rattle.hek_rules.specs.declared.word.BeginRecord.TheVariants.{At}
use Rattle.hek_rules.specs.declared.word.EndRecord.{EndRecord}
use Rattle.hek_rules.specs.declared.word.EndRecord.TheVariants.{Until, Lock}
use Rattle.hek_rules.specs.Words.{infinity, without_writer}
use Rattle.hek_rules.specs.World.{Txn, txn_in, is_committed}
use Rattle.hek_store.specs.Stored.{Stored, version_at, with_begin_word, with_end_word}
use Rattle.hek_txn.specs.TxnTable.{TxnTable}
use Rattle.hek_locks.specs.Locked.{writer_freed, CanFree}

-- t is the writer of the word
abbrev pub is_written_by : ℕ → EndRecord → Bool
is_written_by t (Until time) = false
is_written_by t (Lock readers None no_more) = false
is_written_by t (Lock readers (Some u) no_more) = u == t

-- the store after a committed transaction's end time replaces it in the word of an entry
abbrev pub stamped_committed : Stored → ℕ → WriteEntry → Stored
stamped_committed s end (BeginOf v) = with_begin_word s v (At end)
stamped_committed s end (EndOf v) = with_end_word s v (Until end)

abbrev pub committed_reply : WriteEntry → Reply
committed_reply (BeginOf v) = reply.StampedBegin v
committed_reply (EndOf v) = reply.StampedEnd v

-- the store after the stamp of an aborted transaction: its version never begins; its name leaves a word that has it
abbrev pub stamped_aborted : Stored → ℕ → WriteEntry → Stored
stamped_aborted s t (BeginOf v) = with_begin_word s v (At infinity)
stamped_aborted s t (EndOf v) =
    if is_written_by t (version_at s v).end then with_end_word s v (without_writer (version_at s v).end) else s

abbrev pub freed_aborted : Stored → TxnTable → ℕ → WriteEntry → TxnTable
freed_aborted s ts t (BeginOf v) = ts
freed_aborted s ts t (EndOf v) =
    if is_written_by t (version_at s v).end then writer_freed ts (version_at s v).end else ts

abbrev pub aborted_reply : Stored → ℕ → WriteEntry → Reply
aborted_reply s t (BeginOf v) = reply.StampedBegin v
aborted_reply s t (EndOf v) = if is_written_by t (version_at s v).end then reply.StampedEnd v else reply.Left v

-- the store after the stamp of the first entry of t's write set, if there is one
abbrev pub stamped_store : Stored → List Txn → ℕ → Option WriteEntry → Stored
stamped_store s ts t None = s
stamped_store s ts t (Some e) =
    if is_committed (txn_in ts t).state then stamped_committed s (txn_in ts t).end e else stamped_aborted s t e

abbrev pub stamped_txns : Stored → TxnTable → ℕ → Option WriteEntry → TxnTable
stamped_txns s ts t None = ts
stamped_txns s ts t (Some e) = if is_committed (txn_in ts.cores t).state then ts else freed_aborted s ts t e

abbrev pub stamp_reply : Stored → List Txn → ℕ → Option WriteEntry → Reply
stamp_reply s ts t None = reply.Nothing
stamp_reply s ts t (Some e) = if is_committed (txn_in ts t).state then committed_reply e else aborted_reply s t e

-- a write set without its first entry
abbrev pub rest_of : List WriteEntry → List WriteEntry
rest_of [] = []
rest_of (e ∷ es) = es

-- the version of a write entry
abbrev pub version_of : WriteEntry → ℕ
version_of (BeginOf v) = v
version_of (EndOf v) = v

-- the entry can be stamped: its version exists, and the counter of a writer of the version can fall
abbrev pub CanStamp : Stored → TxnTable → Option WriteEntry → Type 0
CanStamp s ts None = Unit {0}
CanStamp s ts (Some e) = (version_of e < length s.versions) × CanFree ts (version_at s (version_of e)).end
