-- A list for each transaction: the elements of all IDs after one element changes.
use Rattle.std.proofs.Common.{◌≡◌, ℕ, ◌<◌, ◌≤◌, List, ◌∙◌, sym, subst, ⊎_elim, length}
use Rattle.std.proofs.lemmas.Bool.{cases_eq}
use Rattle.hek_rules.specs.declared.event.WriteEntry.{WriteEntry}
use Rattle.hek_rules.specs.World.{Txn}
use Rattle.hek_txn.specs.Entries.{Entries, no_entries}
use Rattle.hek_txn.specs.TxnTable.{TxnTable, IsEven, entry_at, set_at, with_read_set, with_write_set, with_bucket_set, with_waiting_list, with_dependents}
use Rattle.hek_txn.specs.TxnLemmas.{entry_at_set, length_set_at}
use Rattle.hek_txn.proofs.EntryLemmas.{entry_at-other}

-- an ID that has a place in a list
pub record HasPlace {X : Type 0} (xs : List X) (t : ℕ) : Type 0 where
  pub named : 0 < t
  pub within : t ≤ length xs

-- a property of each ID holds after one element changes, if it holds of the new element
pub each-entry : {X : Type 0} (P : ℕ → X → Type 0) (d : X) (xs : List X) (t : ℕ) (x : X) → HasPlace xs t →
    ((u : ℕ) → (u ≡ t → ⊥) → P u (entry_at d xs u)) → P t x → (u : ℕ) → P u (entry_at d (set_at xs t x) u)
each-entry P d xs t x h others this u =
    ⊎_elim
    (λ e. subst (λ n. P n (entry_at d (set_at xs t x) n)) (sym e) (subst (P t) (sym (entry_at_set d xs t x h.named h.within)) this))
    (λ ne. subst (P u) (sym (entry_at-other d xs t u x ne)) (others u ne))
    (cases_eq u t)

-- the members of each list after one list changes
pub each-list : {T : Type 0} (xs : List (Entries T)) (t : ℕ) (e : Entries T) (old new : ℕ → List T) → HasPlace xs t →
    ((u : ℕ) → (entry_at no_entries xs u).items ≡ old u) → ((u : ℕ) → (u ≡ t → ⊥) → new u ≡ old u) → e.items ≡ new t →
    (u : ℕ) → (entry_at no_entries (set_at xs t e) u).items ≡ new u
each-list xs t e old new h shown others this =
    each-entry (λ u x. x.items ≡ new u) no_entries xs t e h (λ u ne. shown u ∙ sym (others u ne)) this

-- ---- each field still has a place for each transaction

pub even-cores : (x : TxnTable) (cores : List Txn) → length cores ≡ length x.cores → IsEven x → IsEven (record x { cores = cores })
even-cores x cores e h = record {
  waits = h.waits ∙ sym e;
  commit_deps = h.commit_deps ∙ sym e;
  read_sets = h.read_sets ∙ sym e;
  write_sets = h.write_sets ∙ sym e;
  bucket_sets = h.bucket_sets ∙ sym e;
  waiting_lists = h.waiting_lists ∙ sym e;
  dependents = h.dependents ∙ sym e;
}

pub even-all_waits : (x : TxnTable) (waits : List ℕ) → length waits ≡ length x.waits → IsEven x → IsEven (record x { waits = waits })
even-all_waits x waits e h = record {
  waits = e ∙ h.waits;
  commit_deps = h.commit_deps;
  read_sets = h.read_sets;
  write_sets = h.write_sets;
  bucket_sets = h.bucket_sets;
  waiting_lists = h.waiting_lists;
  dependents = h.dependents;
}

pub even-all_deps : (x : TxnTable) (commit_deps : List ℕ) → length commit_deps ≡ length x.commit_deps → IsEven x → IsEven (record x { commit_deps = commit_deps })
even-all_deps x commit_deps e h = record {
  waits = h.waits;
  commit_deps = e ∙ h.commit_deps;
  read_sets = h.read_sets;
  write_sets = h.write_sets;
  bucket_sets = h.bucket_sets;
  waiting_lists = h.waiting_lists;
  dependents = h.dependents;
}

pub even-read_set : (x : TxnTable) (t : ℕ) (e : Entries ℕ) → IsEven x → IsEven (with_read_set x t e)
even-read_set x t e h = record {
  waits = h.waits;
  commit_deps = h.commit_deps;
  read_sets = length_set_at x.read_sets t e ∙ h.read_sets;
  write_sets = h.write_sets;
  bucket_sets = h.bucket_sets;
  waiting_lists = h.waiting_lists;
  dependents = h.dependents;
}

pub even-write_set : (x : TxnTable) (t : ℕ) (e : Entries WriteEntry) → IsEven x → IsEven (with_write_set x t e)
even-write_set x t e h = record {
  waits = h.waits;
  commit_deps = h.commit_deps;
  read_sets = h.read_sets;
  write_sets = length_set_at x.write_sets t e ∙ h.write_sets;
  bucket_sets = h.bucket_sets;
  waiting_lists = h.waiting_lists;
  dependents = h.dependents;
}

pub even-bucket_set : (x : TxnTable) (t : ℕ) (e : Entries ℕ) → IsEven x → IsEven (with_bucket_set x t e)
even-bucket_set x t e h = record {
  waits = h.waits;
  commit_deps = h.commit_deps;
  read_sets = h.read_sets;
  write_sets = h.write_sets;
  bucket_sets = length_set_at x.bucket_sets t e ∙ h.bucket_sets;
  waiting_lists = h.waiting_lists;
  dependents = h.dependents;
}

pub even-waiting_list : (x : TxnTable) (t : ℕ) (e : Entries ℕ) → IsEven x → IsEven (with_waiting_list x t e)
even-waiting_list x t e h = record {
  waits = h.waits;
  commit_deps = h.commit_deps;
  read_sets = h.read_sets;
  write_sets = h.write_sets;
  bucket_sets = h.bucket_sets;
  waiting_lists = length_set_at x.waiting_lists t e ∙ h.waiting_lists;
  dependents = h.dependents;
}

pub even-dependents : (x : TxnTable) (t : ℕ) (e : Entries ℕ) → IsEven x → IsEven (with_dependents x t e)
even-dependents x t e h = record {
  waits = h.waits;
  commit_deps = h.commit_deps;
  read_sets = h.read_sets;
  write_sets = h.write_sets;
  bucket_sets = h.bucket_sets;
  waiting_lists = h.waiting_lists;
  dependents = length_set_at x.dependents t e ∙ h.dependents;
}
