-- A version is added: its creator waits for the transactions that lock its bucket.
use Rattle.std.proofs.Common.{◌≡◌, ℕ, zero, suc, ◌+◌, Bool, true, false, List, [], ◌∷◌, ◌++◌, refl, ◌∙◌, ap, sym, arith, None, ⊎_elim, length}
use Rattle.std.proofs.lemmas.Bool.{cond-true, cond-false, cases_Bool, cases_eq}
use Rattle.std.proofs.lemmas.Bool.Decides.{nat_tests}
use Rattle.std.specs.Prelude.{◌==◌, ◌||◌, if◌then◌else◌, slice_index_or}
use Rattle.hek_rules.specs.declared.event.WriteEntry.{WriteEntry}
use Rattle.hek_rules.specs.declared.event.WriteEntry.TheVariants.{BeginOf}
use Rattle.hek_rules.specs.declared.word.BeginRecord.TheVariants.{By}
use Rattle.hek_rules.specs.declared.word.EndRecord.TheVariants.{Until}
use Rattle.hek_rules.specs.Words.{infinity}
use Rattle.hek_rules.specs.Listing.{has, join, is_among, firsts_of, seconds_of}
use Rattle.hek_rules.specs.World.{World, Version, Held, version_in, places, no_version}
use Rattle.hek_rules.specs.Waits.{readers, waits, is_waited_for}
use Rattle.hek_rules.specs.Locks.{wait_for_holders, add_version}
use Rattle.hek_store.specs.declared.version.Version.{Version as StoredVersion}
use Rattle.hek_store.specs.Stored.{Stored, no_version as no_stored}
use Rattle.hek_txn.specs.Entries.{Entries, joined, same_entry, items_of}
use Rattle.hek_txn.specs.TxnTable.{TxnTable, Declared, entry_at, set_at, waits_of, write_set_of, with_write_set}
use Rattle.hek_txn.specs.TxnLemmas.{length_set_at}
use Rattle.hek_txn.proofs.EntryLemmas.{items-entry}
use Rattle.hek_buckets.specs.Waited.{Waiting, waiting_for, waiting_for_all, waiting_of, with_waiting}
use Rattle.hek_laws.specs.Sound.{Sound}
use Rattle.hek_laws.proofs.Lists.Pairs.{firsts-none}
use Rattle.hek_refinement.specs.Shows.{ShowsStore, ShowsTxns, version_shown}
use Rattle.hek_refinement.proofs.Pairs.{among-seconds, firsts-add_same, seconds-add_same, seconds-add_other, entries-add_other}
use Rattle.hek_refinement.proofs.Entries.{HasPlace, each-entry}
use Rattle.hek_refinement.proofs.Counts.{step}
use Rattle.hek_refinement.proofs.Rooms.{place-in}
use Rattle.hek_refinement.proofs.Changes.{shows-versions, shows-writes}
use Rattle.hek_refinement.proofs.Joins.{firsts-join_other}
use Rattle.hek_refinement.proofs.WriteLocks.{new-entry}

-- ---- a list with one more at its end

added-same : {X : Type 0} (xs : List X) (x d : X) → slice_index_or (xs ++ x ∷ []) (length xs) d ≡ x
added-same [] x d = refl
added-same (y ∷ ys) x d = added-same ys x d

added-other : {X : Type 0} (xs : List X) (v : ℕ) (x d : X) → (v ≡ length xs → ⊥) → slice_index_or (xs ++ x ∷ []) v d ≡ slice_index_or xs v d
added-other [] zero x d ne = absurd (ne refl)
added-other [] (suc v) x d ne = refl
added-other (y ∷ ys) zero x d ne = refl
added-other (y ∷ ys) (suc v) x d ne = added-other ys v x d (λ e. ne (ap suc e))

version-index : (vs : List Version) (v : ℕ) → version_in vs v ≡ slice_index_or vs v no_version
version-index [] v = refl
version-index (x ∷ xs) zero = refl
version-index (x ∷ xs) (suc v) = version-index xs v

length-added : {X : Type 0} (xs : List X) (x : X) → length (xs ++ x ∷ []) ≡ length xs + 1
length-added [] x = refl
length-added (y ∷ ys) x = let rest = length-added ys x in omega (arith, rest)

-- ---- the store

new_version : ℕ → ℕ → ℕ → Version
new_version t key value = record { key = key; value = value; creator = By t; ender = Held None false }

-- nobody read-locks a version that does not exist yet
unread : (w : World) → Sound w → readers w.read_locks (length w.versions) ≡ 0
unread w o = ap length (firsts-none w.read_locks (length w.versions) (λ t h. let l = o.read_there t (length w.versions) h in absurd (omega (arith, l))))

pub shows-added_store : (s new : Stored) (w : World) (t key value : ℕ) → Sound w → new.buckets ≡ s.buckets →
    new.versions ≡ s.versions ++ record { key = key; value = value; begin = By t; end = Until infinity } ∷ [] →
    ShowsStore s w.buckets w.versions w.read_locks → ShowsStore new w.buckets (add_version w t key value).versions w.read_locks
shows-added_store s new w t key value o same grown h = record {
  buckets = same ∙ h.buckets;
  count =
      let a = ap length grown in let b = length-added s.versions (record { key = key; value = value; begin = By t; end = Until infinity }) in
      let c = length-added w.versions (record { key = key; value = value; creator = By t; ender = Held None false }) in let d = h.count in omega (arith, a, b, c, d);
  versions = λ v. ap (λ vs. slice_index_or vs v no_stored) grown ∙ at v;
}
  where
    x : StoredVersion
    x = record { key = key; value = value; begin = By t; end = Until infinity }

    y : Version
    y = record { key = key; value = value; creator = By t; ender = Held None false }

    at : (v : ℕ) → slice_index_or (s.versions ++ x ∷ []) v no_stored ≡ version_shown (readers w.read_locks v) (version_in (w.versions ++ y ∷ []) v)
    at v =
        ⊎_elim
        (λ e.
        let here : slice_index_or (s.versions ++ x ∷ []) v no_stored ≡ x = ap (λ k. slice_index_or (s.versions ++ x ∷ []) k no_stored) (e ∙ sym h.count) ∙ added-same s.versions x no_stored in
        let there : version_in (w.versions ++ y ∷ []) v ≡ y = version-index (w.versions ++ y ∷ []) v ∙ ap (λ k. slice_index_or (w.versions ++ y ∷ []) k no_version) e ∙ added-same w.versions y no_version in
        let none : readers w.read_locks v ≡ 0 = ap (readers w.read_locks) e ∙ unread w o in
        here ∙ ap (λ n. version_shown n y) (sym none) ∙ ap (version_shown (readers w.read_locks v)) (sym there))
        (λ ne.
        added-other s.versions v x no_stored (λ e. ne (e ∙ h.count)) ∙ h.versions v
        ∙ ap (version_shown (readers w.read_locks v)) (version-index w.versions v ∙ sym (added-other w.versions v y no_version ne) ∙ sym (version-index (w.versions ++ y ∷ []) v)))
        (cases_eq v (length w.versions))

-- ---- counters

places-added : (test : ℕ → Version → Bool) (i : ℕ) (xs : List Version) (y : Version) → ((k : ℕ) → test k y ≡ false) → length (places test i (xs ++ y ∷ [])) ≡ length (places test i xs)
places-added test i [] y h = ap length (cond-false (test i y) (i ∷ []) [] (h i))
places-added test i (x ∷ xs) y h =
    let a = step test i x (xs ++ y ∷ []) in let b = step test i x xs in let rest = places-added test (i + 1) xs y h in omega (arith, a, b, rest)

-- the table with the write entry of the new version
pub shows-made_txns : (x : TxnTable) (w : World) (t key value : ℕ) (e : Entries WriteEntry) → Declared x t → Sound w →
    e.items ≡ joined same_entry (write_set_of x t).items (BeginOf (length w.versions)) → ShowsTxns x w →
    ShowsTxns (with_write_set x t e) (record w {
      versions = w.versions ++ record { key = key; value = value; creator = By t; ender = Held None false } ∷ [];
      writes = w.writes ++ (t, BeginOf (length w.versions)) ∷ [];
    })
shows-made_txns x w t key value e d o items q =
    shows-writes x (record w { versions = ys }) (w.writes ++ (t, BeginOf (length w.versions)) ∷ []) t e d
    (λ u ne. entries-add_other w.writes t u (BeginOf (length w.versions)) ne)
    (items ∙ new-entry w.writes (write_set_of x t).items t (BeginOf (length w.versions)) (q.write_sets t) (λ i. let l = o.made_there t (length w.versions) i in absurd (omega (arith, l))))
    (shows-versions x w ys x.waits refl (λ u. let same = places-added (is_waited_for w.read_locks u) 0 w.versions y (λ k. refl) in let was = q.waits u in omega (arith, same, was)) q)
  where
    y : Version
    y = record { key = key; value = value; creator = By t; ender = Held None false }

    ys : List Version
    ys = w.versions ++ y ∷ []

-- ---- waits for the holders

-- waiting lists, and the count of t's waits in them, show the pairs
record ShowsWaiting (z : Waiting) (t base : ℕ) (P : List (ℕ × ℕ)) : Type 0 where
  lists : (h : ℕ) → entry_at [] z.lists h ≡ seconds_of P h
  waits : z.waits ≡ base + length (firsts_of P t)

shows-one : (z : Waiting) (t base h : ℕ) (P : List (ℕ × ℕ)) → HasPlace z.lists h → ShowsWaiting z t base P → ShowsWaiting (waiting_for t z h) t base (if h == t then P else join P h t)
shows-one z t base h P place s = ⊎_elim (λ e. own e) (λ ne. other ne) (cases_Bool (h == t))
  where
    stays : ((h == t) || is_among (entry_at [] z.lists h) t) ≡ true → waiting_for t z h ≡ z
    stays b = cond-true ((h == t) || is_among (entry_at [] z.lists h) t) z (record { lists = set_at z.lists h (entry_at [] z.lists h ++ t ∷ []); waits = z.waits + 1 }) b

    own : (h == t) ≡ true → ShowsWaiting (waiting_for t z h) t base (if h == t then P else join P h t)
    own e = rw (cond-true (h == t) P (join P h t) e) (rw (stays (ap (λ b. b || is_among (entry_at [] z.lists h) t) e)) s)

    among : is_among (entry_at [] z.lists h) t ≡ has P h t
    among = ap (λ xs. is_among xs t) (s.lists h) ∙ among-seconds P h t

    other : (h == t) ≡ false → ShowsWaiting (waiting_for t z h) t base (if h == t then P else join P h t)
    other ne =
        rw (cond-false (h == t) P (join P h t) ne)
        (⊎_elim
        (λ y. rw (cond-true (has P h t) P (P ++ (h, t) ∷ []) y) (rw (stays (ap (λ b. b || is_among (entry_at [] z.lists h) t) ne ∙ among ∙ y)) s))
        (λ n. rw (cond-false (has P h t) P (P ++ (h, t) ∷ []) n)
        (rw (cond-false ((h == t) || is_among (entry_at [] z.lists h) t) z (record { lists = set_at z.lists h (entry_at [] z.lists h ++ t ∷ []); waits = z.waits + 1 }) (ap (λ b. b || is_among (entry_at [] z.lists h) t) ne ∙ among ∙ n))
        (record {
          lists = each-entry (λ u xs. xs ≡ seconds_of (P ++ (h, t) ∷ []) u) [] z.lists h (entry_at [] z.lists h ++ t ∷ []) place
              (λ u off. s.lists u ∙ sym (seconds-add_other P h t u off))
              (ap (λ xs. xs ++ t ∷ []) (s.lists h) ∙ sym (seconds-add_same P h t));
          waits = let old = s.waits in let more = ap length (firsts-add_same P h t) in let one = length-added (firsts_of P t) h in omega (arith, old, more, one);
        })))
        (cases_Bool (has P h t)))

one-long : (z : Waiting) (t h : ℕ) → length (waiting_for t z h).lists ≡ length z.lists
one-long z t h = either ((h == t) || is_among (entry_at [] z.lists h) t)
  where
    either : (b : Bool) → length (if b then z else record { lists = set_at z.lists h (entry_at [] z.lists h ++ t ∷ []); waits = z.waits + 1 }).lists ≡ length z.lists
    either true = refl
    either false = length_set_at z.lists h _

all-long : (t : ℕ) (z : Waiting) (hs : List ℕ) → length (waiting_for_all t z hs).lists ≡ length z.lists
all-long t z [] = refl
all-long t z (h ∷ hs) = all-long t (waiting_for t z h) hs ∙ one-long z t h

wait-first : (h t : ℕ) (hs : List ℕ) (P : List (ℕ × ℕ)) → wait_for_holders (h ∷ hs) t P ≡ wait_for_holders hs t (if h == t then P else join P h t)
wait-first h t hs P =
    ⊎_elim
    (λ y. cond-true (h == t) (wait_for_holders hs t P) (wait_for_holders hs t (join P h t)) y ∙ ap (wait_for_holders hs t) (sym (cond-true (h == t) P (join P h t) y)))
    (λ n. cond-false (h == t) (wait_for_holders hs t P) (wait_for_holders hs t (join P h t)) n ∙ ap (wait_for_holders hs t) (sym (cond-false (h == t) P (join P h t) n)))
    (cases_Bool (h == t))

shows-all : (hs : List ℕ) (z : Waiting) (t base : ℕ) (P : List (ℕ × ℕ)) → ((h : ℕ) → is_among hs h ≡ true → HasPlace z.lists h) → ShowsWaiting z t base P →
    ShowsWaiting (waiting_for_all t z hs) t base (wait_for_holders hs t P)
shows-all [] z t base P places s = s
shows-all (h ∷ hs) z t base P places s =
    rw (wait-first h t hs P)
    (shows-all hs (waiting_for t z h) t base (if h == t then P else join P h t)
    (λ k i. let p = places k (later k i) in record { named = p.named; within = let l = p.within in let e = one-long z t h in omega (arith, l, e) })
    (shows-one z t base h P (places h (here h)) s))
  where
    later : (k : ℕ) → is_among hs k ≡ true → is_among (h ∷ hs) k ≡ true
    later k i = grind (arith, nat_tests, i)

    here : (k : ℕ) → is_among (k ∷ hs) k ≡ true
    here k = grind (arith, nat_tests)

firsts-wait_other : (hs : List ℕ) (t u : ℕ) (P : List (ℕ × ℕ)) → (u ≡ t → ⊥) → firsts_of (wait_for_holders hs t P) u ≡ firsts_of P u
firsts-wait_other [] t u P ne = refl
firsts-wait_other (h ∷ hs) t u P ne =
    ⊎_elim
    (λ y. ap (λ ps. firsts_of ps u) (cond-true (h == t) (wait_for_holders hs t P) (wait_for_holders hs t (join P h t)) y) ∙ firsts-wait_other hs t u P ne)
    (λ n. ap (λ ps. firsts_of ps u) (cond-false (h == t) (wait_for_holders hs t P) (wait_for_holders hs t (join P h t)) n) ∙ firsts-wait_other hs t u (join P h t) ne ∙ firsts-join_other P h t u ne)
    (cases_Bool (h == t))

pub shows-waiting : (x new : TxnTable) (w : World) (t : ℕ) (hs : List ℕ) → Declared x t → ((h : ℕ) → is_among hs h ≡ true → Declared x h) →
    new ≡ with_waiting x t new → waiting_of new t ≡ waiting_for_all t (waiting_of x t) hs → ShowsTxns x w →
    ShowsTxns new (record w { waiters = wait_for_holders hs t w.waiters })
shows-waiting x new w t hs d known frame all q = rw frame (record {
  cores = q.cores;
  even = record {
    waits = length_set_at x.waits t _ ∙ q.even.waits;
    commit_deps = q.even.commit_deps;
    read_sets = q.even.read_sets;
    write_sets = q.even.write_sets;
    bucket_sets = q.even.bucket_sets;
    waiting_lists =
        let a = ap (λ (z : Waiting). length z.lists) all in let b = all-long t (waiting_of x t) hs in
        let c = length-items new.waiting_lists in let e = length-items x.waiting_lists in let k = q.even.waiting_lists in omega (arith, a, b, c, e, k);
    dependents = q.even.dependents;
  };
  waits = each-entry (λ u n. n ≡ waits (record w { waiters = wait_for_holders hs t w.waiters }) u) 0 x.waits t (waits_of new t) (place-in x.waits x t q.even.waits d)
      (λ u ne. let was = q.waits u in let same = ap length (firsts-wait_other hs t u w.waiters ne) in omega (arith, was, same))
      (ap (λ (z : Waiting). z.waits) all ∙ shown.waits);
  commit_deps = q.commit_deps;
  read_sets = q.read_sets;
  write_sets = q.write_sets;
  bucket_sets = q.bucket_sets;
  waiting_lists = λ u. sym (items-entry new.waiting_lists u) ∙ ap (λ (z : Waiting). entry_at [] z.lists u) all ∙ shown.lists u;
  dependents = q.dependents;
})
  where
    length-items : (es : List (Entries ℕ)) → length (items_of es) ≡ length es
    length-items [] = refl
    length-items (e ∷ es) = ap suc (length-items es)

    shown : ShowsWaiting (waiting_for_all t (waiting_of x t) hs) t (length (places (is_waited_for w.read_locks t) 0 w.versions)) (wait_for_holders hs t w.waiters)
    shown =
        shows-all hs (waiting_of x t) t (length (places (is_waited_for w.read_locks t) 0 w.versions)) w.waiters
        (λ h i. let k = known h i in record { named = k.named; within = let l = k.within in let e = length-items x.waiting_lists in let f = q.even.waiting_lists in omega (arith, l, e, f) })
        (record { lists = λ h. items-entry x.waiting_lists h ∙ q.waiting_lists h; waits = q.waits t })
