-- A copy shows what was copied.
use Rattle.std.proofs.Common.{◌≡◌, ℕ, suc, List, [], ◌∙◌, ap, sym, length}
use Rattle.std.proofs.lemmas.List.{length-map}
use Rattle.hek_rules.specs.World.{World, Version}
use Rattle.hek_store.specs.Stored.{Stored, version_at}
use Rattle.hek_txn.specs.Entries.{Entries, no_entries, AreCopies}
use Rattle.hek_txn.specs.TxnTable.{TxnTable, IsCopy, entry_at}
use Rattle.hek_txn.proofs.EntryLemmas.{items-entry}
use Rattle.hek_refinement.specs.Shows.{ShowsStore, ShowsTxns, ShowsBuckets}

pub shows-copied_store : (s new : Stored) (n : ℕ) (vs : List Version) (locks : List (ℕ × ℕ)) → new.buckets ≡ s.buckets → new.versions ≡ s.versions → ShowsStore s n vs locks → ShowsStore new n vs locks
shows-copied_store s new n vs locks b e h = record {
  buckets = b ∙ h.buckets;
  count = ap length e ∙ h.count;
  versions = λ v. ap (λ xs. version_at (record s { versions = xs }) v) e ∙ h.versions v;
}

pub copied_list : {T : Type 0} (t : ℕ) (lists copies : List (Entries T)) → AreCopies lists copies → (entry_at no_entries copies t).items ≡ (entry_at no_entries lists t).items
copied_list t lists copies h = sym (items-entry copies t) ∙ ap (λ xs. entry_at [] xs t) h ∙ items-entry lists t

pub copied_length : {T : Type 0} (lists copies : List (Entries T)) → AreCopies lists copies → length copies ≡ length lists
copied_length {T} lists copies h = sym (length-map copies (λ (x : Entries T). x.items)) ∙ ap length h ∙ length-map lists (λ (x : Entries T). x.items)

pub shows-copied_txns : (x new : TxnTable) (w : World) → IsCopy x new → ShowsTxns x w → ShowsTxns new w
shows-copied_txns x new w c s =
    let all = ap length c.cores in
    record {
      cores = c.cores ∙ s.cores;
      even = record {
        waits = ap length c.waits ∙ s.even.waits ∙ sym all;
        commit_deps = ap length c.commit_deps ∙ s.even.commit_deps ∙ sym all;
        read_sets = copied_length x.read_sets new.read_sets c.read_sets ∙ s.even.read_sets ∙ sym all;
        write_sets = copied_length x.write_sets new.write_sets c.write_sets ∙ s.even.write_sets ∙ sym all;
        bucket_sets = copied_length x.bucket_sets new.bucket_sets c.bucket_sets ∙ s.even.bucket_sets ∙ sym all;
        waiting_lists = copied_length x.waiting_lists new.waiting_lists c.waiting_lists ∙ s.even.waiting_lists ∙ sym all;
        dependents = copied_length x.dependents new.dependents c.dependents ∙ s.even.dependents ∙ sym all;
      };
      waits = λ t. ap (λ xs. entry_at 0 xs t) c.waits ∙ s.waits t;
      commit_deps = λ t. ap (λ xs. entry_at 0 xs t) c.commit_deps ∙ s.commit_deps t;
      read_sets = λ t. copied_list t x.read_sets new.read_sets c.read_sets ∙ s.read_sets t;
      write_sets = λ t. copied_list t x.write_sets new.write_sets c.write_sets ∙ s.write_sets t;
      bucket_sets = λ t. copied_list t x.bucket_sets new.bucket_sets c.bucket_sets ∙ s.bucket_sets t;
      waiting_lists = λ t. copied_list t x.waiting_lists new.waiting_lists c.waiting_lists ∙ s.waiting_lists t;
      dependents = λ t. copied_list t x.dependents new.dependents c.dependents ∙ s.dependents t;
    }

pub shows-copied_buckets : (lists copies : List (Entries ℕ)) (n : ℕ) (locks : List (ℕ × ℕ)) → AreCopies lists copies → ShowsBuckets lists n locks → ShowsBuckets copies n locks
shows-copied_buckets lists copies n locks c s = record {
  count = copied_length lists copies c ∙ s.count;
  holders = λ b. copied_list (suc b) lists copies c ∙ s.holders b;
}
