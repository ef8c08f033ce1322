-- A bucket lock leaves, or a wait because of a bucket.
use Rattle.std.proofs.Common.{◌≡◌, ℕ, ◌+◌, ◌-◌, ◌<◌, true, false, List, ◌∙◌, ap, sym, subst, arith, ⊎_elim, length, nat_eq, length-set, get_or-set_same, get_or-set_other}
use Rattle.std.proofs.lemmas.Bool.{cases_eq}
use Rattle.std.proofs.lemmas.Bool.Decides.{nat_tests}
use Rattle.std.specs.Prelude.{◌==◌}
use Rattle.std.specs.Set.{remove_key}
use Rattle.hek_rules.specs.Listing.{leave, has, firsts_of}
use Rattle.hek_rules.specs.World.{World}
use Rattle.hek_buckets.specs.LockLists.{holders_of, with_holders}
use Rattle.hek_txn.specs.Entries.{Entries, no_entries}
use Rattle.hek_txn.specs.TxnTable.{TxnTable, Declared, waits_of, set_at, with_waits, bucket_set_of, with_bucket_set, waiting_list_of, with_waiting_list}
use Rattle.hek_txn.specs.TxnLemmas.{length_set_at}
use Rattle.hek_laws.specs.Lists.{Once}
use Rattle.hek_refinement.specs.Shows.{ShowsTxns, ShowsBuckets}
use Rattle.hek_refinement.proofs.Pairs.{bit, has-readers, firsts-leave_count, firsts-leave_other, firsts-leave_same, seconds-leave_same, seconds-leave_other}
use Rattle.hek_refinement.proofs.Raised.{entry-lowered}
use Rattle.hek_refinement.proofs.Changes.{shows-bucket_locks, shows-waiters}

-- the lists show the bucket locks after the list of one bucket changes
pub shows-holders : (lists : List (Entries ℕ)) (n : ℕ) (P Q : List (ℕ × ℕ)) (b : ℕ) (e : Entries ℕ) → b < n →
    ((c : ℕ) → (c ≡ b → ⊥) → firsts_of Q c ≡ firsts_of P c) → e.items ≡ firsts_of Q b → ShowsBuckets lists n P → ShowsBuckets (with_holders lists b e) n Q
shows-holders lists n P Q b e l others this h = record {
  count = length-set lists b e ∙ h.count;
  holders = λ c.
      ⊎_elim
      (λ q. subst (λ k. (holders_of (with_holders lists b e) k).items ≡ firsts_of Q k) (sym q)
      (ap (λ (x : Entries ℕ). x.items) (get_or-set_same lists b e no_entries (let k = h.count in omega (arith, k, l))) ∙ this))
      (λ ne. ap (λ (x : Entries ℕ). x.items) (get_or-set_other lists b c e no_entries ne) ∙ h.holders c ∙ sym (others c ne))
      (cases_eq c b);
}

pub shows-unlocked : (lists : List (Entries ℕ)) (n : ℕ) (P : List (ℕ × ℕ)) (t b : ℕ) (e : Entries ℕ) → b < n → Once P →
    e.items ≡ remove_key (nat_eq t) (holders_of lists b).items → ShowsBuckets lists n P → ShowsBuckets (with_holders lists b e) n (leave P t b)
shows-unlocked lists n P t b e l once items h =
    shows-holders lists n P (leave P t b) b e l (λ c ne. firsts-leave_other P t b c ne)
    (items ∙ ap (remove_key (nat_eq t)) (h.holders b) ∙ sym (firsts-leave_same P t b once)) h

pub shows-unlocked_txns : (x : TxnTable) (w : World) (t b : ℕ) (e : Entries ℕ) → Declared x t → Once w.bucket_locks →
    e.items ≡ remove_key (nat_eq b) (bucket_set_of x t).items → ShowsTxns x w →
    ShowsTxns (with_bucket_set x t e) (record w { bucket_locks = leave w.bucket_locks t b })
shows-unlocked_txns x w t b e d once items s =
    shows-bucket_locks x w (leave w.bucket_locks t b) t e d (λ u ne. seconds-leave_other w.bucket_locks t b u ne)
    (items ∙ ap (remove_key (nat_eq b)) (s.bucket_sets t) ∙ sym (seconds-leave_same w.bucket_locks t b once)) s

-- how many first parts each second part has after a pair leaves: one less for its own
firsts-leave_each : (ps : List (ℕ × ℕ)) (a b c : ℕ) → Once ps → has ps a b ≡ true → length (firsts_of (leave ps a b) c) + bit (b == c) ≡ length (firsts_of ps c)
firsts-leave_each ps a b c once h =
    ⊎_elim
    (λ e.
    let all = firsts-leave_count ps a b once in let one = ap bit h in let same : (b == c) ≡ true = grind (arith, nat_tests, e) in let k = ap bit same in
    let left = ap (λ n. length (firsts_of (leave ps a b) n)) e in let old = ap (λ n. length (firsts_of ps n)) e in omega (arith, all, one, k, left, old))
    (λ ne.
    let same = ap length (firsts-leave_other ps a b c ne) in let no : (b == c) ≡ false = grind (arith, nat_tests, ne) in let k = ap bit no in omega (arith, same, k))
    (cases_eq c b)

pub shows-unwaited : (x : TxnTable) (w : World) (t u : ℕ) (e : Entries ℕ) → Declared x t → Once w.waiters → has w.waiters t u ≡ true →
    e.items ≡ remove_key (nat_eq u) (waiting_list_of x t).items → ShowsTxns x w →
    ShowsTxns (with_waiting_list (with_waits x u (waits_of x u - 1)) t e) (record w { waiters = leave w.waiters t u })
shows-unwaited x w t u e d once h items s =
    shows-waiters x w (leave w.waiters t u) (set_at x.waits u (waits_of x u - 1)) t e d (length_set_at x.waits u _)
    (λ v.
    let low = entry-lowered x.waits u v in let old = s.waits v in let fewer = firsts-leave_each w.waiters t u v once h in omega (arith, low, old, fewer))
    (λ v ne. seconds-leave_other w.waiters t u v ne)
    (items ∙ ap (remove_key (nat_eq u)) (s.waiting_lists t) ∙ sym (seconds-leave_same w.waiters t u once)) s

-- a transaction that waits counts that wait
pub waiter-counted : (x : TxnTable) (w : World) (t u : ℕ) → has w.waiters t u ≡ true → ShowsTxns x w → 0 < waits_of x u
waiter-counted x w t u h s = let some = has-readers w.waiters t u h in let n = s.waits u in omega (arith, some, n)
