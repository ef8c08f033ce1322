-- A store, a table of transactions and lock lists that show a world: each word, counter and list is that of the world's
-- image. They do not show the order between pairs of different transactions, so this is a relation.
use Rattle.std.specs.Prelude.{ℕ, ◌≡◌, List, length}
use Rattle.hek_rules.specs.World.{World, Version, version_in}
use Rattle.hek_rules.specs.Listing.{firsts_of}
use Rattle.hek_rules.specs.Waits.{readers, waits, commit_deps}
use Rattle.hek_rules.specs.Shown.{end_word_by, read_set, write_set, bucket_set, waiting_list, dependents_of}
use Rattle.hek_store.specs.declared.version.Version.{Version as StoredVersion}
use Rattle.hek_store.specs.Stored.{Stored, version_at}
use Rattle.hek_txn.specs.Entries.{Entries}
use Rattle.hek_txn.specs.TxnTable.{TxnTable, IsEven, waits_of, commit_deps_of, read_set_of, write_set_of, bucket_set_of, waiting_list_of, dependents_of as dependents_in}
use Rattle.hek_buckets.specs.LockLists.{holders_of}

-- the stored version of a version with `count` readers
abbrev pub version_shown : ℕ → Version → StoredVersion
version_shown count x =
    record { key = x.key; value = x.value; begin = x.creator; end = end_word_by count x.ender }

-- the store shows these versions of n buckets under these read locks
pub record ShowsStore (s : Stored) (n : ℕ) (vs : List Version) (read_locks : List (ℕ × ℕ)) : Type 0 where
  pub buckets : s.buckets ≡ n
  pub count : length s.versions ≡ length vs
  pub versions : (v : ℕ) → version_at s v ≡ version_shown (readers read_locks v) (version_in vs v)

-- the table shows the transactions of the world
pub record ShowsTxns (x : TxnTable) (w : World) : Type 0 where
  pub cores : x.cores ≡ w.txns
  pub even : IsEven x
  pub waits : (t : ℕ) → waits_of x t ≡ waits w t
  pub commit_deps : (t : ℕ) → commit_deps_of x t ≡ commit_deps w t
  pub read_sets : (t : ℕ) → (read_set_of x t).items ≡ read_set w t
  pub write_sets : (t : ℕ) → (write_set_of x t).items ≡ write_set w t
  pub bucket_sets : (t : ℕ) → (bucket_set_of x t).items ≡ bucket_set w t
  pub waiting_lists : (t : ℕ) → (waiting_list_of x t).items ≡ waiting_list w t
  pub dependents : (t : ℕ) → (dependents_in x t).items ≡ dependents_of w t

-- the lists show the locks of n buckets
pub record ShowsBuckets (lists : List (Entries ℕ)) (n : ℕ) (bucket_locks : List (ℕ × ℕ)) : Type 0 where
  pub count : length lists ≡ n
  pub holders : (b : ℕ) → (holders_of lists b).items ≡ firsts_of bucket_locks b
