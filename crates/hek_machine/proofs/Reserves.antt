-- Reserving room changes nothing else.
use Rattle.std.proofs.Common.{◌≡◌, ℕ, zero, suc, ◌+◌, ◌<◌, ◌≤◌, List, [], ◌∷◌, refl, ◌∙◌, ap, sym, subst, arith, inl, inr, ⊎_elim, length, take, get_or}
use Rattle.std.proofs.lemmas.List.{take_more}
use Rattle.std.specs.Prelude.{slice_index_or, slice_set}
use Rattle.hek_rules.specs.declared.event.Effect.{Effect}
use Rattle.hek_rules.specs.declared.event.Effect.TheVariants.{LockBucket, DependOn, MakeWait, ReadLock, WriteLock}
use Rattle.hek_rules.specs.Listing.{is_among}
use Rattle.hek_laws.specs.Lists.{In}
use Rattle.hek_laws.proofs.Walks.Judged.{In-split}
use Rattle.hek_txn.specs.Entries.{Entries, no_entries, items_of, AreCopies}
use Rattle.hek_txn.specs.TxnTable.{TxnTable, entry_at, set_at, read_set_of, with_read_set, write_set_of, with_write_set, bucket_set_of, with_bucket_set, waiting_list_of, with_waiting_list, dependents_of, with_dependents}
use Rattle.hek_txn.proofs.EntryLemmas.{set_at-same, items-entry, items-set}
use Rattle.hek_buckets.specs.LockLists.{holders_of, with_holders}
use Rattle.hek_machine.specs.declared.engine.Engine.{Engine}
use Rattle.hek_machine.specs.Stands.{StillShows}
use Rattle.hek_machine.specs.Room.{Reserved, IsThere, IsEffectReady}
use Rattle.hek_machine.proofs.Loads.{copied-shows}

-- ---- one list

module _ {T : Type 0} where
  grown_place : (xs : List (Entries T)) (i j : ℕ) (e : Entries T) → (slice_index_or xs i no_entries).room ≤ e.room →
      (slice_index_or xs j no_entries).room ≤ (slice_index_or (slice_set xs i e) j no_entries).room
  grown_place [] i j e h = omega arith
  grown_place (x ∷ xs) zero zero e h = h
  grown_place (x ∷ xs) zero (suc j) e h = omega arith
  grown_place (x ∷ xs) (suc i) zero e h = omega arith
  grown_place (x ∷ xs) (suc i) (suc j) e h = grown_place xs i j e h

  grown : (xs : List (Entries T)) (t u : ℕ) (e : Entries T) → (entry_at no_entries xs t).room ≤ e.room →
      (entry_at no_entries xs u).room ≤ (entry_at no_entries (set_at xs t e) u).room
  grown xs zero u e h = omega arith
  grown xs (suc i) zero e h = omega arith
  grown xs (suc i) (suc j) e h = grown_place xs i j e h

  copy-set : (xs : List (Entries T)) (t : ℕ) (e : Entries T) → e.items ≡ (entry_at no_entries xs t).items → AreCopies xs (set_at xs t e)
  copy-set xs t e h = items-set xs t e ∙ ap (set_at (items_of xs) t) (h ∙ sym (items-entry xs t)) ∙ set_at-same [] (items_of xs) t

  copy-place : (xs : List (Entries T)) (i : ℕ) (e : Entries T) → e.items ≡ (slice_index_or xs i no_entries).items → AreCopies xs (slice_set xs i e)
  copy-place [] i e h = refl
  copy-place (x ∷ xs) zero e h = ap (λ y. y ∷ items_of xs) h
  copy-place (x ∷ xs) (suc i) e h = ap (λ ys. x.items ∷ ys) (copy-place xs i e h)

  pub items-index : (xs : List (Entries T)) (i : ℕ) → slice_index_or (items_of xs) i [] ≡ (slice_index_or xs i no_entries).items
  items-index [] i = refl
  items-index (x ∷ xs) zero = refl
  items-index (x ∷ xs) (suc i) = items-index xs i

  items-length : (xs : List (Entries T)) → length (items_of xs) ≡ length xs
  items-length [] = refl
  items-length (x ∷ xs) = ap suc (items-length xs)

-- ---- the relation

pub reserved_more : (a b c : Engine) → Reserved a b → Reserved b c → Reserved a c
reserved_more a b c p q = let x = p.txns in let y = q.txns in record {
  clock = q.clock ∙ p.clock;
  store_buckets = q.store_buckets ∙ p.store_buckets;
  versions = q.versions ∙ p.versions;
  txns = record {
    cores = y.cores ∙ x.cores;
    waits = y.waits ∙ x.waits;
    commit_deps = y.commit_deps ∙ x.commit_deps;
    read_sets = y.read_sets ∙ x.read_sets;
    write_sets = y.write_sets ∙ x.write_sets;
    bucket_sets = y.bucket_sets ∙ x.bucket_sets;
    waiting_lists = y.waiting_lists ∙ x.waiting_lists;
    dependents = y.dependents ∙ x.dependents;
  };
  holders = q.holders ∙ p.holders;
  more_reads = λ t. let k = p.more_reads t in let l = q.more_reads t in omega (arith, k, l);
  more_writes = λ t. let k = p.more_writes t in let l = q.more_writes t in omega (arith, k, l);
  more_buckets = λ t. let k = p.more_buckets t in let l = q.more_buckets t in omega (arith, k, l);
  more_waiters = λ t. let k = p.more_waiters t in let l = q.more_waiters t in omega (arith, k, l);
  more_dependents = λ t. let k = p.more_dependents t in let l = q.more_dependents t in omega (arith, k, l);
  more_holders = λ h. let k = p.more_holders h in let l = q.more_holders h in omega (arith, k, l);
  more_versions = let k = p.more_versions in let l = q.more_versions in omega (arith, k, l);
}

pub reserved-shows : (m n : Engine) → Reserved m n → StillShows m n
reserved-shows m n r = copied-shows m n (record { clock = r.clock; store_buckets = r.store_buckets; versions = r.versions; txns = r.txns; buckets = r.holders })

-- ---- each call

pub reserved_reads : (m : Engine) (t : ℕ) (x : TxnTable) → x ≡ with_read_set m.txns t (read_set_of x t) → (read_set_of x t).items ≡ (read_set_of m.txns t).items →
    (read_set_of m.txns t).room ≤ (read_set_of x t).room → Reserved m (record m { txns = x })
reserved_reads m t x is items more = subst (λ (z : TxnTable). Reserved m (record m { txns = z })) (sym is) (record {
  clock = refl;
  store_buckets = refl;
  versions = refl;
  txns = record { cores = refl; waits = refl; commit_deps = refl; read_sets = copy-set m.txns.read_sets t (read_set_of x t) items; write_sets = refl; bucket_sets = refl; waiting_lists = refl; dependents = refl };
  holders = refl;
  more_reads = λ u. grown m.txns.read_sets t u (read_set_of x t) more;
  more_writes = λ u. omega arith;
  more_buckets = λ u. omega arith;
  more_waiters = λ u. omega arith;
  more_dependents = λ u. omega arith;
  more_holders = λ b. omega arith;
  more_versions = omega arith;
})

pub reserved_writes : (m : Engine) (t : ℕ) (x : TxnTable) → x ≡ with_write_set m.txns t (write_set_of x t) → (write_set_of x t).items ≡ (write_set_of m.txns t).items →
    (write_set_of m.txns t).room ≤ (write_set_of x t).room → Reserved m (record m { txns = x })
reserved_writes m t x is items more = subst (λ (z : TxnTable). Reserved m (record m { txns = z })) (sym is) (record {
  clock = refl;
  store_buckets = refl;
  versions = refl;
  txns = record { cores = refl; waits = refl; commit_deps = refl; read_sets = refl; write_sets = copy-set m.txns.write_sets t (write_set_of x t) items; bucket_sets = refl; waiting_lists = refl; dependents = refl };
  holders = refl;
  more_reads = λ u. omega arith;
  more_writes = λ u. grown m.txns.write_sets t u (write_set_of x t) more;
  more_buckets = λ u. omega arith;
  more_waiters = λ u. omega arith;
  more_dependents = λ u. omega arith;
  more_holders = λ b. omega arith;
  more_versions = omega arith;
})

pub reserved_buckets : (m : Engine) (t : ℕ) (x : TxnTable) → x ≡ with_bucket_set m.txns t (bucket_set_of x t) → (bucket_set_of x t).items ≡ (bucket_set_of m.txns t).items →
    (bucket_set_of m.txns t).room ≤ (bucket_set_of x t).room → Reserved m (record m { txns = x })
reserved_buckets m t x is items more = subst (λ (z : TxnTable). Reserved m (record m { txns = z })) (sym is) (record {
  clock = refl;
  store_buckets = refl;
  versions = refl;
  txns = record { cores = refl; waits = refl; commit_deps = refl; read_sets = refl; write_sets = refl; bucket_sets = copy-set m.txns.bucket_sets t (bucket_set_of x t) items; waiting_lists = refl; dependents = refl };
  holders = refl;
  more_reads = λ u. omega arith;
  more_writes = λ u. omega arith;
  more_buckets = λ u. grown m.txns.bucket_sets t u (bucket_set_of x t) more;
  more_waiters = λ u. omega arith;
  more_dependents = λ u. omega arith;
  more_holders = λ b. omega arith;
  more_versions = omega arith;
})

pub reserved_waiters : (m : Engine) (t : ℕ) (x : TxnTable) → x ≡ with_waiting_list m.txns t (waiting_list_of x t) → (waiting_list_of x t).items ≡ (waiting_list_of m.txns t).items →
    (waiting_list_of m.txns t).room ≤ (waiting_list_of x t).room → Reserved m (record m { txns = x })
reserved_waiters m t x is items more = subst (λ (z : TxnTable). Reserved m (record m { txns = z })) (sym is) (record {
  clock = refl;
  store_buckets = refl;
  versions = refl;
  txns = record { cores = refl; waits = refl; commit_deps = refl; read_sets = refl; write_sets = refl; bucket_sets = refl; waiting_lists = copy-set m.txns.waiting_lists t (waiting_list_of x t) items; dependents = refl };
  holders = refl;
  more_reads = λ u. omega arith;
  more_writes = λ u. omega arith;
  more_buckets = λ u. omega arith;
  more_waiters = λ u. grown m.txns.waiting_lists t u (waiting_list_of x t) more;
  more_dependents = λ u. omega arith;
  more_holders = λ b. omega arith;
  more_versions = omega arith;
})

pub reserved_dependents : (m : Engine) (t : ℕ) (x : TxnTable) → x ≡ with_dependents m.txns t (dependents_of x t) → (dependents_of x t).items ≡ (dependents_of m.txns t).items →
    (dependents_of m.txns t).room ≤ (dependents_of x t).room → Reserved m (record m { txns = x })
reserved_dependents m t x is items more = subst (λ (z : TxnTable). Reserved m (record m { txns = z })) (sym is) (record {
  clock = refl;
  store_buckets = refl;
  versions = refl;
  txns = record { cores = refl; waits = refl; commit_deps = refl; read_sets = refl; write_sets = refl; bucket_sets = refl; waiting_lists = refl; dependents = copy-set m.txns.dependents t (dependents_of x t) items };
  holders = refl;
  more_reads = λ u. omega arith;
  more_writes = λ u. omega arith;
  more_buckets = λ u. omega arith;
  more_waiters = λ u. omega arith;
  more_dependents = λ u. grown m.txns.dependents t u (dependents_of x t) more;
  more_holders = λ b. omega arith;
  more_versions = omega arith;
})

pub reserved_holders : (m : Engine) (b : ℕ) (lists : List (Entries ℕ)) → lists ≡ with_holders m.buckets b (holders_of lists b) → (holders_of lists b).items ≡ (holders_of m.buckets b).items →
    (holders_of m.buckets b).room ≤ (holders_of lists b).room → Reserved m (record m { buckets = lists })
reserved_holders m b lists is items more = subst (λ (z : List (Entries ℕ)). Reserved m (record m { buckets = z })) (sym is) (record {
  clock = refl;
  store_buckets = refl;
  versions = refl;
  txns = record { cores = refl; waits = refl; commit_deps = refl; read_sets = refl; write_sets = refl; bucket_sets = refl; waiting_lists = refl; dependents = refl };
  holders = copy-place m.buckets b (holders_of lists b) items;
  more_reads = λ u. omega arith;
  more_writes = λ u. omega arith;
  more_buckets = λ u. omega arith;
  more_waiters = λ u. omega arith;
  more_dependents = λ u. omega arith;
  more_holders = λ c. grown_place m.buckets b c (holders_of lists b) more;
  more_versions = omega arith;
})

-- ---- lists that had room keep it

pub there-kept : (m n : Engine) → Reserved m n → (e : Effect) → IsThere m e → IsThere n e
there-kept m n r (LockBucket b) h = let a = items-length m.buckets in let c = items-length n.buckets in let k = ap length r.holders in omega (arith, a, c, k, h)
there-kept m n r (DependOn u) h = let k = ap length r.txns.cores in let l = h.within in record { named = h.named; within = omega (arith, k, l) }
there-kept m n r (MakeWait u) h = tt
there-kept m n r (ReadLock v) h = tt
there-kept m n r (WriteLock v) h = tt

pub ready-kept : (m n : Engine) (t : ℕ) → Reserved m n → (e : Effect) → IsEffectReady m t e → IsEffectReady n t e
ready-kept m n t r (LockBucket b) h = λ no.
    let same : (holders_of n.buckets b).items ≡ (holders_of m.buckets b).items = sym (items-index n.buckets b) ∙ ap (λ xs. slice_index_or xs b []) r.holders ∙ items-index m.buckets b in
    let old = h (ap (λ xs. is_among xs t) (sym same) ∙ no) in let more = r.more_holders b in omega (arith, old, more)
ready-kept m n t r (DependOn u) h = λ no.
    let same : (dependents_of n.txns u).items ≡ (dependents_of m.txns u).items = sym (items-entry n.txns.dependents u) ∙ ap (λ xs. entry_at [] xs u) r.txns.dependents ∙ items-entry m.txns.dependents u in
    let old = h (ap (λ xs. is_among xs t) (sym same) ∙ no) in let more = r.more_dependents u in omega (arith, old, more)
ready-kept m n t r (MakeWait u) h = tt
ready-kept m n t r (ReadLock v) h = tt
ready-kept m n t r (WriteLock v) h = tt

-- ---- the loop

pub in-at : (es : List Effect) (i : ℕ) (e : Effect) → i < length es → e ≡ get_or es i e → In e es
in-at [] i e l h = absurd (omega (arith, l))
in-at (x ∷ xs) zero e l h = inl h
in-at (x ∷ xs) (suc i) e l h = inr (in-at xs i e (omega (arith, l)) h)

pub ready_more : (old new : Engine) (t i : ℕ) (e : Effect) (es : List Effect) → i < length es → e ≡ get_or es i e → Reserved old new → IsEffectReady new t e →
    ((x : Effect) → In x (take i es) → IsEffectReady old t x) → (x : Effect) → In x (take (i + 1) es) → IsEffectReady new t x
ready_more old new t i e es l at r this before x h =
    ⊎_elim (λ k. ready-kept old new t r x (before x k)) (λ k. ⊎_elim (λ same. subst (IsEffectReady new t) (sym (same ∙ sym at)) this) (λ none. absurd none) k)
    (In-split x (take i es) (get_or es i e ∷ []) (subst (In x) (take_more es i e l) h))

-- ---- the whole
