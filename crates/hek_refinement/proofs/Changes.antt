-- The table of transactions after one list of the world has changed.
use Rattle.std.proofs.Common.{◌≡◌, ℕ, List, length}
use Rattle.hek_rules.specs.declared.event.WriteEntry.{WriteEntry}
use Rattle.hek_rules.specs.Listing.{seconds_of}
use Rattle.hek_rules.specs.World.{World, Version}
use Rattle.hek_rules.specs.Waits.{waits, commit_deps}
use Rattle.hek_rules.specs.Table.{entries_of}
use Rattle.hek_rules.specs.Shown.{read_set, write_set, bucket_set, waiting_list, dependents_of}
use Rattle.hek_txn.specs.Entries.{Entries}
use Rattle.hek_txn.specs.TxnTable.{TxnTable, Declared, entry_at, with_read_set, with_write_set, with_bucket_set, with_waiting_list, with_dependents}
use Rattle.hek_refinement.specs.Shows.{ShowsTxns}
use Rattle.hek_refinement.proofs.Entries.{each-list, even-all_waits, even-all_deps, even-read_set, even-write_set, even-bucket_set, even-waiting_list, even-dependents}
use Rattle.hek_refinement.proofs.Rooms.{place-in}

-- the table shows the world with other versions and other counts of waits
pub shows-versions : (x : TxnTable) (w : World) (ys : List Version) (W : List ℕ) → length W ≡ length x.waits →
    ((u : ℕ) → entry_at 0 W u ≡ waits (record w { versions = ys }) u) → ShowsTxns x w →
    ShowsTxns (record x { waits = W }) (record w { versions = ys })
shows-versions x w ys W long count s = record {
  cores = s.cores;
  even = even-all_waits x W long s.even;
  waits = count;
  commit_deps = s.commit_deps;
  read_sets = s.read_sets;
  write_sets = s.write_sets;
  bucket_sets = s.bucket_sets;
  waiting_lists = s.waiting_lists;
  dependents = s.dependents;
}

-- the table shows the world with other versions, read locks of t and counts of waits
pub shows-reads : (x : TxnTable) (w : World) (ys : List Version) (S : List (ℕ × ℕ)) (W : List ℕ) (t : ℕ) (e : Entries ℕ) → Declared x t → length W ≡ length x.waits →
    ((u : ℕ) → entry_at 0 W u ≡ waits (record w { versions = ys; read_locks = S }) u) →
    ((u : ℕ) → (u ≡ t → ⊥) → seconds_of S u ≡ seconds_of w.read_locks u) → e.items ≡ seconds_of S t → ShowsTxns x w →
    ShowsTxns (with_read_set (record x { waits = W }) t e) (record w { versions = ys; read_locks = S })
shows-reads x w ys S W t e d long count others this s = record {
  cores = s.cores;
  even = even-read_set (record x { waits = W }) t e (even-all_waits x W long s.even);
  waits = count;
  commit_deps = s.commit_deps;
  read_sets = each-list x.read_sets t e (read_set w) (seconds_of S) (place-in x.read_sets x t s.even.read_sets d) s.read_sets others this;
  write_sets = s.write_sets;
  bucket_sets = s.bucket_sets;
  waiting_lists = s.waiting_lists;
  dependents = s.dependents;
}

-- the table shows the world with other write entries of t
pub shows-writes : (x : TxnTable) (w : World) (ws : List (ℕ × WriteEntry)) (t : ℕ) (e : Entries WriteEntry) → Declared x t →
    ((u : ℕ) → (u ≡ t → ⊥) → entries_of ws u ≡ entries_of w.writes u) → e.items ≡ entries_of ws t → ShowsTxns x w →
    ShowsTxns (with_write_set x t e) (record w { writes = ws })
shows-writes x w ws t e d others this s = record {
  cores = s.cores;
  even = even-write_set x t e s.even;
  waits = s.waits;
  commit_deps = s.commit_deps;
  read_sets = s.read_sets;
  write_sets = each-list x.write_sets t e (write_set w) (entries_of ws) (place-in x.write_sets x t s.even.write_sets d) s.write_sets others this;
  bucket_sets = s.bucket_sets;
  waiting_lists = s.waiting_lists;
  dependents = s.dependents;
}

-- the table shows the world with other bucket locks of t
pub shows-bucket_locks : (x : TxnTable) (w : World) (locks : List (ℕ × ℕ)) (t : ℕ) (e : Entries ℕ) → Declared x t →
    ((u : ℕ) → (u ≡ t → ⊥) → seconds_of locks u ≡ seconds_of w.bucket_locks u) → e.items ≡ seconds_of locks t → ShowsTxns x w →
    ShowsTxns (with_bucket_set x t e) (record w { bucket_locks = locks })
shows-bucket_locks x w locks t e d others this s = record {
  cores = s.cores;
  even = even-bucket_set x t e s.even;
  waits = s.waits;
  commit_deps = s.commit_deps;
  read_sets = s.read_sets;
  write_sets = s.write_sets;
  bucket_sets = each-list x.bucket_sets t e (bucket_set w) (seconds_of locks) (place-in x.bucket_sets x t s.even.bucket_sets d) s.bucket_sets others this;
  waiting_lists = s.waiting_lists;
  dependents = s.dependents;
}

-- the table shows the world with other waiters of t and other counts of waits
pub shows-waiters : (x : TxnTable) (w : World) (waiters : List (ℕ × ℕ)) (W : List ℕ) (t : ℕ) (e : Entries ℕ) → Declared x t → length W ≡ length x.waits →
    ((u : ℕ) → entry_at 0 W u ≡ waits (record w { waiters = waiters }) u) →
    ((u : ℕ) → (u ≡ t → ⊥) → seconds_of waiters u ≡ seconds_of w.waiters u) → e.items ≡ seconds_of waiters t → ShowsTxns x w →
    ShowsTxns (with_waiting_list (record x { waits = W }) t e) (record w { waiters = waiters })
shows-waiters x w waiters W t e d long count others this s = record {
  cores = s.cores;
  even = even-waiting_list (record x { waits = W }) t e (even-all_waits x W long s.even);
  waits = count;
  commit_deps = s.commit_deps;
  read_sets = s.read_sets;
  write_sets = s.write_sets;
  bucket_sets = s.bucket_sets;
  waiting_lists = each-list x.waiting_lists t e (waiting_list w) (seconds_of waiters) (place-in x.waiting_lists x t s.even.waiting_lists d) s.waiting_lists others this;
  dependents = s.dependents;
}

-- the table shows the world with other dependents of t and other counts of dependencies
pub shows-dependents : (x : TxnTable) (w : World) (ps : List (ℕ × ℕ)) (D : List ℕ) (t : ℕ) (e : Entries ℕ) → Declared x t → length D ≡ length x.commit_deps →
    ((u : ℕ) → entry_at 0 D u ≡ commit_deps (record w { dependents = ps }) u) →
    ((u : ℕ) → (u ≡ t → ⊥) → seconds_of ps u ≡ seconds_of w.dependents u) → e.items ≡ seconds_of ps t → ShowsTxns x w →
    ShowsTxns (with_dependents (record x { commit_deps = D }) t e) (record w { dependents = ps })
shows-dependents x w ps D t e d long count others this s = record {
  cores = s.cores;
  even = even-dependents (record x { commit_deps = D }) t e (even-all_deps x D long s.even);
  waits = s.waits;
  commit_deps = count;
  read_sets = s.read_sets;
  write_sets = s.write_sets;
  bucket_sets = s.bucket_sets;
  waiting_lists = s.waiting_lists;
  dependents = each-list x.dependents t e (dependents_of w) (seconds_of ps) (place-in x.dependents x t s.even.dependents d) s.dependents others this;
}
