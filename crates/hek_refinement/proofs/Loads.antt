-- A loaded store, table and lock lists show the opening world.
use Rattle.std.proofs.Common.{◌≡◌, ℕ, zero, suc, ◌+◌, List, [], ◌∷◌, map, refl, ◌∙◌, ap, sym, length}
use Rattle.std.specs.Prelude.{replicate, slice_index_or}
use Rattle.std.proofs.lemmas.List.{length-map}
use Rattle.hek_rules.specs.declared.event.Level.{Level}
use Rattle.hek_rules.specs.World.{opening, loaded, version_in, places, new_txn}
use Rattle.hek_rules.specs.Waits.{is_waited_for}
use Rattle.hek_store.specs.Stored.{Stored, version_at, loaded_version}
use Rattle.hek_txn.specs.Entries.{Entries, no_entries, AreEmpty}
use Rattle.hek_txn.specs.TxnTable.{TxnTable, IsOpening, entry_at}
use Rattle.hek_txn.proofs.EntryLemmas.{items-entry}
use Rattle.hek_refinement.specs.Shows.{ShowsStore, ShowsTxns, ShowsBuckets, version_shown}

loaded_at : (rows : List (ℕ × ℕ)) (s : Stored) (v : ℕ) → s.versions ≡ map loaded_version rows → version_at s v ≡ version_shown 0 (version_in (map loaded rows) v)
loaded_at rows s v e = ap (λ vs. version_at (record s { versions = vs }) v) e ∙ place rows v
  where
    place : (rs : List (ℕ × ℕ)) (i : ℕ) → version_at (record s { versions = map loaded_version rs }) i ≡ version_shown 0 (version_in (map loaded rs) i)
    place [] i = refl
    place (r ∷ rs) zero = refl
    place (r ∷ rs) (suc i) = place rs i

pub shows-loaded_store : (s : Stored) (n : ℕ) (rows : List (ℕ × ℕ)) → s.buckets ≡ n → s.versions ≡ map loaded_version rows → ShowsStore s n (map loaded rows) []
shows-loaded_store s n rows b e = record {
  buckets = b;
  count = ap length e ∙ length-map rows loaded_version ∙ sym (length-map rows loaded);
  versions = λ v. loaded_at rows s v e;
}

none_waits : (u i : ℕ) (rows : List (ℕ × ℕ)) → places (is_waited_for [] u) i (map loaded rows) ≡ []
none_waits u i [] = refl
none_waits u i (r ∷ rs) = none_waits u (i + 1) rs

zeros : (n t : ℕ) → entry_at {X = ℕ} 0 (replicate n 0) t ≡ 0
zeros n zero = refl
zeros n (suc i) = place n i
  where
    place : (k j : ℕ) → slice_index_or {A = ℕ} (replicate k 0) j 0 ≡ 0
    place zero j = refl
    place (suc k) zero = refl
    place (suc k) (suc j) = place k j

empties : {T : Type 0} (n t : ℕ) → entry_at {X = List T} [] (replicate n []) t ≡ []
empties n zero = refl
empties {T} n (suc i) = place n i
  where
    place : (k j : ℕ) → slice_index_or {A = List T} (replicate k []) j [] ≡ []
    place zero j = refl
    place (suc k) zero = refl
    place (suc k) (suc j) = place k j

length-replicate : {X : Type 0} (n : ℕ) (x : X) → length (replicate n x) ≡ n
length-replicate zero x = refl
length-replicate (suc n) x = ap suc (length-replicate n x)

empty_list : {T : Type 0} (n t : ℕ) (lists : List (Entries T)) → AreEmpty n lists → (entry_at no_entries lists t).items ≡ []
empty_list n t lists h = sym (items-entry lists t) ∙ ap (λ xs. entry_at [] xs t) h ∙ empties n t

as_many : {T : Type 0} (n m : ℕ) (lists : List (Entries T)) → AreEmpty n lists → n ≡ m → length lists ≡ m
as_many {T} n m lists h e = sym (length-map lists (λ (x : Entries T). x.items)) ∙ ap length h ∙ length-replicate n [] ∙ e

pub shows-loaded_txns : (x : TxnTable) (n clock : ℕ) (rows : List (ℕ × ℕ)) (levels : List Level) → IsOpening levels x → ShowsTxns x (opening n rows levels clock)
shows-loaded_txns x n clock rows levels o =
    let all : length levels ≡ length x.cores = sym (length-map levels new_txn) ∙ sym (ap length o.cores) in
    let count : ℕ = length levels in
    record {
      cores = o.cores;
      even = record {
        waits = ap length o.waits ∙ length-replicate count 0 ∙ all;
        commit_deps = ap length o.commit_deps ∙ length-replicate count 0 ∙ all;
        read_sets = as_many count _ x.read_sets o.read_sets all;
        write_sets = as_many count _ x.write_sets o.write_sets all;
        bucket_sets = as_many count _ x.bucket_sets o.bucket_sets all;
        waiting_lists = as_many count _ x.waiting_lists o.waiting_lists all;
        dependents = as_many count _ x.dependents o.dependents all;
      };
      waits = λ t. ap (λ xs. entry_at 0 xs t) o.waits ∙ zeros count t ∙ sym (ap (λ xs. length xs + 0) (none_waits t 0 rows));
      commit_deps = λ t. ap (λ xs. entry_at 0 xs t) o.commit_deps ∙ zeros count t;
      read_sets = λ t. empty_list count t x.read_sets o.read_sets;
      write_sets = λ t. empty_list count t x.write_sets o.write_sets;
      bucket_sets = λ t. empty_list count t x.bucket_sets o.bucket_sets;
      waiting_lists = λ t. empty_list count t x.waiting_lists o.waiting_lists;
      dependents = λ t. empty_list count t x.dependents o.dependents;
    }

pub shows-loaded_buckets : (lists : List (Entries ℕ)) (n : ℕ) → AreEmpty n lists → ShowsBuckets lists n []
shows-loaded_buckets lists n h = record {
  count = as_many n n lists h refl;
  holders = λ b. empty_list n (suc b) lists h;
}
