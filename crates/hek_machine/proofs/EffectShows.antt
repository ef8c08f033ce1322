-- Each effect of a walk leaves parts that show the world after it, and takes no more room than it adds.
use Rattle.std.proofs.Common.{◌≡◌, ℕ, ◌+◌, ◌<◌, ◌≤◌, Bool, true, false, List, refl, ◌∙◌, ap, sym, subst, arith, ⊎_elim, nat_eq, get_or-set_other, inl, inr, ◌++◌, ◌∷◌, []}
use Rattle.std.proofs.lemmas.Bool.{cond_both, cases_Bool, cases_eq, false≢true, eqb-true}
use Rattle.std.specs.Prelude.{◌==◌, ◌||◌, ◌⊎◌}
use Rattle.std.specs.Set.{remove_key}
use Rattle.hek_rules.specs.declared.event.WriteEntry.TheVariants.{EndOf}
use Rattle.hek_rules.specs.declared.event.Effect.{Effect}
use Rattle.hek_rules.specs.declared.event.Effect.TheVariants.{LockBucket, DependOn, MakeWait, ReadLock, WriteLock}
use Rattle.hek_rules.specs.Listing.{join, is_among}
use Rattle.hek_rules.specs.World.{World}
use Rattle.hek_rules.specs.Locks.{add_read, reads_freely, cleared, set_ender}
use Rattle.hek_rules.specs.World.{version_in}
use Rattle.hek_store.specs.Stored.{Stored}
use Rattle.hek_txn.specs.Entries.{Entries, no_entries, joined, same_entry}
use Rattle.hek_txn.specs.TxnTable.{TxnTable, Declared, entry_at, with_bucket_set, with_waiting_list, with_dependents, with_read_set, with_write_set, read_set_of, write_set_of, bucket_set_of, waiting_list_of, dependents_of}
use Rattle.hek_txn.proofs.EntryLemmas.{entry_at-other, among-appended}
use Rattle.hek_buckets.specs.LockLists.{holders_of, with_holders}
use Rattle.hek_buckets.specs.Waited.{imposed_waits}
use Rattle.hek_commit.specs.Committed.{depended_deps}
use Rattle.hek_locks.specs.Locked.{reads_freely as reads_free, read_locked, read_lock_waits, read_lock_reads, write_locked, write_lock_waits}
use Rattle.hek_refinement.proofs.Pairs.{among-seconds}
use Rattle.hek_refinement.proofs.Known.{begun-known}
use Rattle.hek_refinement.proofs.Joins.{join-there, joined-there, joined-new, shows-locked, shows-locked_txns, shows-depended, shows-waited}
use Rattle.hek_refinement.proofs.ReadLocks.{shows-read_store, shows-read_txns}
use Rattle.hek_refinement.proofs.WriteLocks.{shows-write_store, shows-write_txns}
use Rattle.hek_refinement.proofs.OnlyWaits.{read-only, write-only, depended-only}
use Rattle.hek_machine.specs.declared.engine.Engine.{Engine}
use Rattle.hek_machine.specs.Room.{IsEffectReady, KeepsRoom}
use Rattle.hek_buckets.specs.Waited.{IsReady as CanWait}
use Rattle.hek_machine.specs.Applied.{Applies}

-- ---- shows

pub applies_wait : (m : Engine) (t u : ℕ) (x : TxnTable) → x ≡ with_waiting_list (imposed_waits m.txns t u) t (waiting_list_of x t) →
    (waiting_list_of x t).items ≡ joined nat_eq (waiting_list_of m.txns t).items u → Applies m (record m { txns = x }) t (MakeWait u)
applies_wait m t u x is items w c = let h = c.shows in record {
  clock = h.clock;
  store = h.store;
  txns = rw is (shows-waited m.txns w t u (waiting_list_of x t) c.walker (begun-known m.txns w u h.txns c.may) items h.txns);
  buckets = h.buckets;
}

pub applies_dependence : (m : Engine) (t u : ℕ) (x : TxnTable) → x ≡ with_dependents (depended_deps m.txns t u) u (dependents_of x u) →
    (dependents_of x u).items ≡ joined nat_eq (dependents_of m.txns u).items t → Applies m (record m { txns = x }) t (DependOn u)
applies_dependence m t u x is items w c = let h = c.shows in record {
  clock = h.clock;
  store = h.store;
  txns = rw is (shows-depended m.txns w t u (dependents_of x u) c.walker (begun-known m.txns w u h.txns c.may) items h.txns);
  buckets = h.buckets;
}

pub depends_already : (m : Engine) (t u : ℕ) → is_among (dependents_of m.txns u).items t ≡ true → Applies m m t (DependOn u)
depends_already m t u there w c =
    let h = c.shows in
    rw (join-there w.dependents u t (sym (ap (λ xs. is_among xs t) (h.txns.dependents u) ∙ among-seconds w.dependents u t) ∙ there)) h

pub applies_bucket : (m : Engine) (t b : ℕ) (lists : List (Entries ℕ)) (x : TxnTable) →
    lists ≡ with_holders m.buckets b (holders_of lists b) → (holders_of lists b).items ≡ joined nat_eq (holders_of m.buckets b).items t →
    x ≡ with_bucket_set m.txns t (bucket_set_of x t) → (bucket_set_of x t).items ≡ joined nat_eq (bucket_set_of m.txns t).items b →
    Applies m (record m { buckets = lists; txns = x }) t (LockBucket b)
applies_bucket m t b lists x is members like items w c = let h = c.shows in record {
  clock = h.clock;
  store = h.store;
  txns = rw like (shows-locked_txns m.txns w t b (bucket_set_of x t) c.walker items h.txns);
  buckets = rw is (shows-locked m.buckets w.buckets w.bucket_locks t b (holders_of lists b) c.may members h.buckets);
}

pub locks_already : (m : Engine) (t b : ℕ) → is_among (bucket_set_of m.txns t).items b ≡ true → Applies m m t (LockBucket b)
locks_already m t b there w c =
    let h = c.shows in
    rw (join-there w.bucket_locks t b (sym (ap (λ xs. is_among xs b) (h.txns.bucket_sets t) ∙ among-seconds w.bucket_locks t b) ∙ there)) h

read-frame : (w : World) (t v : ℕ) (P : World → Type 0) → P w →
    P (record w { versions = set_ender w.versions v (cleared w.txns (version_in w.versions v).ender); read_locks = join w.read_locks t v }) → P (add_read w t v)
read-frame w t v P a b =
    cond_both (reads_freely w t v) w (record w { versions = set_ender w.versions v (cleared w.txns (version_in w.versions v).ender); read_locks = join w.read_locks t v }) P (λ _. a) (λ _. b)

pub applies_read : (m : Engine) (t v : ℕ) (x : TxnTable) → x ≡ with_read_set (read_lock_waits m.store m.txns t v) t (read_set_of x t) →
    (read_set_of x t).items ≡ read_lock_reads m.store m.txns t v → Applies m (record m { store = read_locked m.store m.txns t v; txns = x }) t (ReadLock v)
applies_read m t v x is items w c = let h = c.shows in record {
  clock = read-frame w t v (λ z. m.clock ≡ z.clock) h.clock h.clock;
  store = rw (read-frame w t v (λ z. z.buckets ≡ w.buckets) refl refl) (shows-read_store m.store m.txns w t v c.may h.store h.txns);
  txns = rw is (shows-read_txns m.store m.txns w t v (read_set_of x t) c.walker c.sound c.may items h.store h.txns);
  buckets = rw (read-frame w t v (λ z. z.buckets ≡ w.buckets) refl refl) (rw (read-frame w t v (λ z. z.bucket_locks ≡ w.bucket_locks) refl refl) h.buckets);
}

pub applies_write : (m : Engine) (t v : ℕ) (x : TxnTable) →
    x ≡ with_write_set (with_read_set (write_lock_waits m.store m.txns t v) t (read_set_of x t)) t (write_set_of x t) →
    (read_set_of x t).items ≡ remove_key (nat_eq v) (read_set_of m.txns t).items → (write_set_of x t).items ≡ joined same_entry (write_set_of m.txns t).items (EndOf v) →
    Applies m (record m { store = write_locked m.store m.txns t v; txns = x }) t (WriteLock v)
applies_write m t v x is taken joins w c = let h = c.shows in record {
  clock = h.clock;
  store = shows-write_store m.store m.txns w t v c.sound c.may h.store h.txns;
  txns = rw is (shows-write_txns m.store m.txns w t v (read_set_of x t) (write_set_of x t) c.walker c.sound c.may taken joins h.store h.txns);
  buckets = h.buckets;
}

-- ---- room

ready-same : (m : Engine) (s : Stored) (x : TxnTable) (t : ℕ) → x.dependents ≡ m.txns.dependents → (e : Effect) → IsEffectReady m t e → IsEffectReady (record m { store = s; txns = x }) t e
ready-same m s x t same (LockBucket b) r = r
ready-same m s x t same (DependOn u) r = subst (λ (es : List (Entries ℕ)). is_among (entry_at no_entries es u).items t ≡ false → 0 < (entry_at no_entries es u).room) (sym same) r
ready-same m s x t same (MakeWait u) r = tt
ready-same m s x t same (ReadLock v) r = tt
ready-same m s x t same (WriteLock v) r = tt

still-joins : (m : Engine) (x : TxnTable) (t : ℕ) → x.waiting_lists ≡ m.txns.waiting_lists → (h : ℕ) → (h ≡ t → ⊥) → CanWait m.txns t h → CanWait x t h
still-joins m x t same h ne r = record {
  room = subst (λ (ls : List (Entries ℕ)). is_among (entry_at no_entries ls h).items t ≡ false → 0 < (entry_at no_entries ls h).room) (sym same) r.room;
}

among-joined : (xs : List ℕ) (n h : ℕ) → is_among (joined nat_eq xs n) h ≡ true → (is_among xs h ≡ true) ⊎ (h ≡ n)
among-joined xs n h k =
    ⊎_elim (λ there. inl (sym (ap (λ ys. is_among ys h) (joined-there xs n there)) ∙ k))
    (λ new. appended xs (sym (ap (λ ys. is_among ys h) (joined-new xs n new)) ∙ k)) (cases_Bool (is_among xs n))
  where
    appended : (ys : List ℕ) → is_among (ys ++ n ∷ []) h ≡ true → (is_among ys h ≡ true) ⊎ (h ≡ n)
    appended [] e = ⊎_elim (λ same. inr (sym (eqb-true n h same))) (λ other. absurd (false≢true (sym other ∙ alone (n == h) e))) (cases_Bool (n == h))
      where
        alone : (b : Bool) → (b || false) ≡ true → b ≡ true
        alone true z = refl
        alone false z = z
    appended (y ∷ ys) e = ⊎_elim (λ here. inl (ap (λ b. b || is_among ys h) here)) (λ other. ⊎_elim (λ k. inl (ap (λ b. b || is_among ys h) other ∙ k)) (λ k. inr k) (appended ys (sym (ap (λ b. b || is_among (ys ++ n ∷ []) h) other) ∙ e))) (cases_Bool (y == h))

pub room_read : (s : Stored) (x : TxnTable) (t v : ℕ) → s.room ≤ (read_locked s x t v).room
room_read s x t v = cond_both (reads_free s x t v) s _ (λ (z : Stored). s.room ≤ z.room) (λ _. omega arith) (λ _. omega arith)

pub keeps_read : (m : Engine) (t v : ℕ) (s : Stored) (x : TxnTable) → m.store.room ≤ s.room → x ≡ with_read_set (read_lock_waits m.store m.txns t v) t (read_set_of x t) →
    (read_set_of m.txns t).room ≤ (read_set_of x t).room + 1 → KeepsRoom m (record m { store = s; txns = x }) t (ReadLock v)
keeps_read m t v s x stored is room =
    let e = is ∙ ap (λ (y : TxnTable). with_read_set y t (read_set_of x t)) (read-only m.store m.txns t v) in
    let a = ap (λ (y : TxnTable). (waiting_list_of y t).room) e in let b = ap (λ (y : TxnTable). (write_set_of y t).room) e in
    let c = ap (λ (y : TxnTable). (bucket_set_of y t).room) e in
    record {
      reads = omega (arith, room);
      writes = omega (arith, b);
      waits = omega (arith, a);
      buckets = omega (arith, c);
      others = ready-same m s x t (ap (λ (y : TxnTable). y.dependents) e);
      adding = record { versions = stored; joins = still-joins m x t (ap (λ (y : TxnTable). y.waiting_lists) e); holders = λ b h k. inl k };
    }

pub keeps_write : (m : Engine) (t v : ℕ) (s : Stored) (x : TxnTable) → m.store.room ≤ s.room →
    x ≡ with_write_set (with_read_set (write_lock_waits m.store m.txns t v) t (read_set_of x t)) t (write_set_of x t) →
    (read_set_of m.txns t).room ≤ (read_set_of x t).room → (write_set_of m.txns t).room ≤ (write_set_of x t).room + 1 → KeepsRoom m (record m { store = s; txns = x }) t (WriteLock v)
keeps_write m t v s x stored is reads writes =
    let e = is ∙ ap (λ (y : TxnTable). with_write_set (with_read_set y t (read_set_of x t)) t (write_set_of x t)) (write-only m.store m.txns t v) in
    let a = ap (λ (y : TxnTable). (waiting_list_of y t).room) e in
    let c = ap (λ (y : TxnTable). (bucket_set_of y t).room) e in
    record {
      reads = omega (arith, reads);
      writes = omega (arith, writes);
      waits = omega (arith, a);
      buckets = omega (arith, c);
      others = ready-same m s x t (ap (λ (y : TxnTable). y.dependents) e);
      adding = record { versions = stored; joins = still-joins m x t (ap (λ (y : TxnTable). y.waiting_lists) e); holders = λ b h k. inl k };
    }

joined-among : (xs : List ℕ) (n : ℕ) → is_among xs n ≡ false → is_among (joined nat_eq xs n) n ≡ true
joined-among xs n h = ap (λ ys. is_among ys n) (joined-new xs n h) ∙ among-appended xs n

pub keeps_dependence : (m : Engine) (t u : ℕ) (x : TxnTable) → Declared m.txns u → is_among (dependents_of m.txns u).items t ≡ false → x ≡ with_dependents (depended_deps m.txns t u) u (dependents_of x u) →
    (dependents_of x u).items ≡ joined nat_eq (dependents_of m.txns u).items t → KeepsRoom m (record m { txns = x }) t (DependOn u)
keeps_dependence m t u x d fresh is items =
    let a = ap (λ (y : TxnTable). (waiting_list_of y t).room) whole in let b = ap (λ (y : TxnTable). (write_set_of y t).room) whole in
    let c = ap (λ (y : TxnTable). (bucket_set_of y t).room) whole in let k = ap (λ (y : TxnTable). (read_set_of y t).room) whole in
    record {
      reads = omega (arith, k);
      writes = omega (arith, b);
      waits = omega (arith, a);
      buckets = omega (arith, c);
      others = others;
      adding = record { versions = omega arith; joins = still-joins m x t (ap (λ (y : TxnTable). y.waiting_lists) whole); holders = λ b h k. inl k };
    }
  where
    whole : x ≡ with_dependents (record m.txns { commit_deps = (depended_deps m.txns t u).commit_deps }) u (dependents_of x u)
    whole = is ∙ ap (λ (y : TxnTable). with_dependents y u (dependents_of x u)) (depended-only m.txns t u)

    others : (e : Effect) → IsEffectReady m t e → IsEffectReady (record m { txns = x }) t e
    others (LockBucket b) r = r
    others (DependOn y) r =
        ⊎_elim
        (λ e. λ no. absurd (false≢true (sym no ∙ ap (λ n. is_among (dependents_of x n).items t) e ∙ ap (λ xs. is_among xs t) items ∙ joined-among (dependents_of m.txns u).items t fresh)))
        (λ ne. let same : dependents_of x y ≡ dependents_of m.txns y = ap (λ (z : TxnTable). dependents_of z y) whole ∙ entry_at-other no_entries m.txns.dependents u y (dependents_of x u) ne in
        subst (λ (es : Entries ℕ). is_among es.items t ≡ false → 0 < es.room) (sym same) r)
        (cases_eq y u)
    others (MakeWait y) r = tt
    others (ReadLock v) r = tt
    others (WriteLock v) r = tt

pub keeps_bucket : (m : Engine) (t b : ℕ) (lists : List (Entries ℕ)) (x : TxnTable) → is_among (holders_of m.buckets b).items t ≡ false →
    lists ≡ with_holders m.buckets b (holders_of lists b) → (holders_of lists b).items ≡ joined nat_eq (holders_of m.buckets b).items t →
    x ≡ with_bucket_set m.txns t (bucket_set_of x t) → (bucket_set_of m.txns t).room ≤ (bucket_set_of x t).room + 1 →
    KeepsRoom m (record m { buckets = lists; txns = x }) t (LockBucket b)
keeps_bucket m t b lists x fresh is members like room =
    let a = ap (λ (y : TxnTable). (waiting_list_of y t).room) like in let k = ap (λ (y : TxnTable). (write_set_of y t).room) like in
    let c = ap (λ (y : TxnTable). (read_set_of y t).room) like in
    record {
      reads = omega (arith, c);
      writes = omega (arith, k);
      waits = omega (arith, a);
      buckets = omega (arith, room);
      others = others;
      adding = record { versions = omega arith; joins = still-joins m x t (ap (λ (y : TxnTable). y.waiting_lists) like); holders = holders };
    }
  where
    holders : (c h : ℕ) → is_among (holders_of lists c).items h ≡ true → (is_among (holders_of m.buckets c).items h ≡ true) ⊎ (h ≡ t)
    holders c h k =
        ⊎_elim
        (λ e. let old : is_among (joined nat_eq (holders_of m.buckets b).items t) h ≡ true = sym (ap (λ n. is_among (holders_of lists n).items h) e ∙ ap (λ xs. is_among xs h) members) ∙ k in
        ⊎_elim (λ y. inl (ap (λ n. is_among (holders_of m.buckets n).items h) e ∙ y)) (λ y. inr y) (among-joined (holders_of m.buckets b).items t h old))
        (λ ne. let same : holders_of lists c ≡ holders_of m.buckets c = ap (λ ls. holders_of ls c) is ∙ get_or-set_other m.buckets b c (holders_of lists b) no_entries ne in
        inl (ap (λ (es : Entries ℕ). is_among es.items h) (sym same) ∙ k))
        (cases_eq c b)

    others : (e : Effect) → IsEffectReady m t e → IsEffectReady (record m { buckets = lists; txns = x }) t e
    others (LockBucket y) r =
        ⊎_elim
        (λ e. λ no. absurd (false≢true (sym no ∙ ap (λ n. is_among (holders_of lists n).items t) e ∙ ap (λ xs. is_among xs t) members ∙ joined-among (holders_of m.buckets b).items t fresh)))
        (λ ne. let same : holders_of lists y ≡ holders_of m.buckets y = ap (λ ls. holders_of ls y) is ∙ get_or-set_other m.buckets b y (holders_of lists b) no_entries ne in
        subst (λ (es : Entries ℕ). is_among es.items t ≡ false → 0 < es.room) (sym same) r)
        (cases_eq y b)
    others (DependOn u) r =
        subst (λ (es : List (Entries ℕ)). is_among (entry_at no_entries es u).items t ≡ false → 0 < (entry_at no_entries es u).room) (sym (ap (λ (y : TxnTable). y.dependents) like)) r
    others (MakeWait u) r = tt
    others (ReadLock v) r = tt
    others (WriteLock v) r = tt
