-- The release of a read lock, a bucket lock or a waiter is its rule.
use Rattle.std.proofs.Common.{◌≡◌, ℕ, ◌-◌, ◌<◌, List, [], ◌∷◌, refl, ◌∙◌, ap, sym, arith, true, Some, None, length, nat_eq}
use Rattle.std.specs.Prelude.{slice_get, slice_index_or}
use Rattle.std.specs.Set.{remove_key}
use Rattle.std.specs.List.{All}
use Rattle.hek_rules.specs.declared.reply.Reply.TheVariants as reply
use Rattle.hek_rules.specs.Words.{readers_of, without_reader, dropped_of}
use Rattle.hek_rules.specs.Listing.{has, leave, seconds_of}
use Rattle.hek_rules.specs.World.{World}
use Rattle.hek_rules.specs.Table.{Outcome, release_rule, release_first, release_bucket, release_waiter, release_read}
use Rattle.hek_store.specs.Stored.{version_at, with_end_word}
use Rattle.hek_txn.specs.Entries.{Entries}
use Rattle.hek_txn.specs.TxnTable.{TxnTable, Declared, waits_of, with_waits, read_set_of, with_read_set, bucket_set_of, with_bucket_set, waiting_list_of, with_waiting_list}
use Rattle.hek_locks.specs.Locked.{after_drop, left_writer, CanTell}
use Rattle.hek_buckets.specs.LockLists.{holders_of, with_holders}
use Rattle.hek_laws.proofs.Runs.Reachable.{reachable-sound}
use Rattle.hek_refinement.proofs.Pairs.{first-has}
use Rattle.hek_refinement.proofs.Known.{has-second, begun-known}
use Rattle.hek_refinement.proofs.ReadReleases.{Reading, reading, told-same, shows-released_store, shows-released_txns, has-reader, may-tell}
use Rattle.hek_refinement.proofs.Leaves.{shows-unlocked, shows-unlocked_txns, shows-unwaited, waiter-counted}
use Rattle.hek_machine.specs.declared.engine.Engine.{Engine}
use Rattle.hek_machine.specs.Stands.{StandsFor, StandsForSome, IsRule}
use Rattle.hek_machine.proofs.PhaseRules.{rule-is}

-- ---- which rule it is

no_first : {X : Type 0} (xs : List X) → slice_get xs 0 ≡ None → xs ≡ []
no_first [] h = refl
no_first (x ∷ xs) h = cc

first_read : (w : World) (t v : ℕ) (vs : List ℕ) → slice_get vs 0 ≡ Some v → release_first w t vs ≡ release_read w t v
first_read w t v [] h = cc
first_read w t v (x ∷ vs) h = ap (release_read w t) (some x v h)
  where
    some : (a b : ℕ) → Some a ≡ Some b → a ≡ b
    some a b e = cc

first_bucket : (w : World) (t b : ℕ) (bs : List ℕ) → slice_get bs 0 ≡ Some b →
    release_bucket w t bs ≡ record { reply = reply.ReleasedBucket b; world = record w { bucket_locks = leave w.bucket_locks t b } }
first_bucket w t b [] h = cc
first_bucket w t b (x ∷ bs) h = ap (λ (n : ℕ). one n) (some x b h)
  where
    one : ℕ → Outcome
    one n = record { reply = reply.ReleasedBucket n; world = record w { bucket_locks = leave w.bucket_locks t n } }

    some : (a b : ℕ) → Some a ≡ Some b → a ≡ b
    some a b e = cc

first_waiter : (w : World) (t u : ℕ) (us : List ℕ) → slice_get us 0 ≡ Some u →
    release_waiter w t us ≡ record { reply = reply.ReleasedWaiter u; world = record w { waiters = leave w.waiters t u } }
first_waiter w t u [] h = cc
first_waiter w t u (x ∷ us) h = ap (λ (n : ℕ). one n) (some x u h)
  where
    one : ℕ → Outcome
    one n = record { reply = reply.ReleasedWaiter n; world = record w { waiters = leave w.waiters t n } }

    some : (a b : ℕ) → Some a ≡ Some b → a ≡ b
    some a b e = cc

-- the release of a transaction without read locks gives up a bucket lock, or else a waiter
no_reads : (m : Engine) (w : World) (t : ℕ) → StandsFor m w → slice_get (read_set_of m.txns t).items 0 ≡ None → release_rule w t ≡ release_bucket w t (seconds_of w.bucket_locks t)
no_reads m w t s h = ap (release_first w t) (sym (s.shows.txns.read_sets t) ∙ no_first (read_set_of m.txns t).items h)

no_buckets : (m : Engine) (w : World) (t : ℕ) → StandsFor m w → slice_get (read_set_of m.txns t).items 0 ≡ None → slice_get (bucket_set_of m.txns t).items 0 ≡ None →
    release_rule w t ≡ release_waiter w t (seconds_of w.waiters t)
no_buckets m w t s h k = no_reads m w t s h ∙ ap (release_bucket w t) (sym (s.shows.txns.bucket_sets t) ∙ no_first (bucket_set_of m.txns t).items k)

-- ---- a read lock

reading_first : (m : Engine) (w : World) (t v : ℕ) → StandsFor m w → slice_get (read_set_of m.txns t).items 0 ≡ Some v → Reading w t v
reading_first m w t v s h = reading w t v (reachable-sound w s.reachable) (first-has w.read_locks t v (ap (λ xs. slice_get xs 0) (sym (s.shows.txns.read_sets t)) ∙ h))

pub read_made : (m : Engine) (t v : ℕ) → StandsForSome m → slice_get (read_set_of m.txns t).items 0 ≡ Some v → v < length m.store.versions
read_made m t v o h = let r = reading_first m o.world t v o.stands h in let l = r.made in let c = o.stands.shows.store.count in omega (arith, l, c)

pub read_has_reader : (m : Engine) (t v : ℕ) → StandsForSome m → slice_get (read_set_of m.txns t).items 0 ≡ Some v → 0 < readers_of (version_at m.store v).end
read_has_reader m t v o h = has-reader m.store o.world t v (reading_first m o.world t v o.stands h) o.stands.shows.store

pub read_may_tell : (m : Engine) (t v : ℕ) → StandsForSome m → slice_get (read_set_of m.txns t).items 0 ≡ Some v → CanTell m.txns (dropped_of (version_at m.store v).end)
read_may_tell m t v o h =
    may-tell m.store m.txns o.world t v (reachable-sound o.world o.stands.reachable) (reading_first m o.world t v o.stands h) o.stands.shows.store o.stands.shows.txns

pub row_of_release_read : (m : Engine) (t v : ℕ) (x : TxnTable) → Declared m.txns t → slice_get (read_set_of m.txns t).items 0 ≡ Some v →
    x ≡ with_read_set (after_drop (dropped_of (version_at m.store v).end) m.txns) t (read_set_of x t) →
    (read_set_of x t).items ≡ remove_key (nat_eq v) (read_set_of m.txns t).items →
    IsRule (λ w. release_rule w t) m (record m { store = with_end_word m.store v (without_reader (version_at m.store v).end); txns = x })
    (reply.ReleasedRead v (left_writer (dropped_of (version_at m.store v).end)))
row_of_release_read m t v x d first is items =
    rule-is m _ (λ w. release_rule w t) (λ w. release_read w t v) _
    (λ w s. first_read w t v (seconds_of w.read_locks t) (ap (λ xs. slice_get xs 0) (sym (s.shows.txns.read_sets t)) ∙ first))
    (record {
      reply = λ w s. ap (reply.ReleasedRead v) (told-same m.store w t v (reading_first m w t v s first) s.shows.store);
      shows = λ w s. let h = s.shows in let r = reading_first m w t v s first in record {
        clock = h.clock;
        store = shows-released_store m.store w t v r h.store;
        txns = rw is (shows-released_txns m.store m.txns w t v (read_set_of x t) d (reachable-sound w s.reachable) r items h.store h.txns);
        buckets = h.buckets;
      };
    })

-- ---- a bucket lock

locked_first : (m : Engine) (w : World) (t b : ℕ) → StandsFor m w → slice_get (bucket_set_of m.txns t).items 0 ≡ Some b → has w.bucket_locks t b ≡ true
locked_first m w t b s h = first-has w.bucket_locks t b (ap (λ xs. slice_get xs 0) (sym (s.shows.txns.bucket_sets t)) ∙ h)

pub bucket_made : (m : Engine) (t b : ℕ) → StandsForSome m → slice_get (bucket_set_of m.txns t).items 0 ≡ Some b → b < length m.buckets
bucket_made m t b o h =
    let l = (reachable-sound o.world o.stands.reachable).bucket_there t b (locked_first m o.world t b o.stands h) in
    let c = o.stands.shows.buckets.count in omega (arith, l, c)

pub row_of_release_bucket : (m : Engine) (t b : ℕ) (lists : List (Entries ℕ)) (x : TxnTable) → Declared m.txns t →
    slice_get (read_set_of m.txns t).items 0 ≡ None → slice_get (bucket_set_of m.txns t).items 0 ≡ Some b →
    lists ≡ with_holders m.buckets b (holders_of lists b) → (holders_of lists b).items ≡ remove_key (nat_eq t) (holders_of m.buckets b).items →
    x ≡ with_bucket_set m.txns t (bucket_set_of x t) → (bucket_set_of x t).items ≡ remove_key (nat_eq b) (bucket_set_of m.txns t).items →
    IsRule (λ w. release_rule w t) m (record m { buckets = lists; txns = x }) (reply.ReleasedBucket b)
row_of_release_bucket m t b lists x d none first is members like items =
    rule-is m _ (λ w. release_rule w t) (λ w. record { reply = reply.ReleasedBucket b; world = record w { bucket_locks = leave w.bucket_locks t b } }) _
    (λ w s. no_reads m w t s none ∙ first_bucket w t b (seconds_of w.bucket_locks t) (ap (λ xs. slice_get xs 0) (sym (s.shows.txns.bucket_sets t)) ∙ first))
    (record {
      reply = λ w s. refl;
      shows = λ w s. let h = s.shows in let o = reachable-sound w s.reachable in record {
        clock = h.clock;
        store = h.store;
        txns = rw like (shows-unlocked_txns m.txns w t b (bucket_set_of x t) d o.buckets_once items h.txns);
        buckets = rw is (shows-unlocked m.buckets w.buckets w.bucket_locks t b (holders_of lists b) (o.bucket_there t b (locked_first m w t b s first)) o.buckets_once members h.buckets);
      };
    })

-- ---- a waiter

waited_first : (m : Engine) (w : World) (t u : ℕ) → StandsFor m w → slice_get (waiting_list_of m.txns t).items 0 ≡ Some u → has w.waiters t u ≡ true
waited_first m w t u s h = first-has w.waiters t u (ap (λ xs. slice_get xs 0) (sym (s.shows.txns.waiting_lists t)) ∙ h)

pub waiters_counted : (m : Engine) (t : ℕ) → StandsForSome m → All (λ u. Declared m.txns u × (0 < waits_of m.txns u)) (waiting_list_of m.txns t).items
waiters_counted m t o k d l =
    let w : World = o.world in
    let q = o.stands.shows.txns in
    let u : ℕ = slice_index_or (waiting_list_of m.txns t).items k d in
    let h = has-second w.waiters t (waiting_list_of m.txns t).items k d (q.waiting_lists t) l in
    (begun-known m.txns w u q ((reachable-sound w o.stands.reachable).waiter_begun t u h), waiter-counted m.txns w t u h q)

pub row_of_release_waiter : (m : Engine) (t u : ℕ) (x : TxnTable) → Declared m.txns t →
    slice_get (read_set_of m.txns t).items 0 ≡ None → slice_get (bucket_set_of m.txns t).items 0 ≡ None → slice_get (waiting_list_of m.txns t).items 0 ≡ Some u →
    x ≡ with_waiting_list (with_waits m.txns u (waits_of m.txns u - 1)) t (waiting_list_of x t) →
    (waiting_list_of x t).items ≡ remove_key (nat_eq u) (waiting_list_of m.txns t).items →
    IsRule (λ w. release_rule w t) m (record m { txns = x }) (reply.ReleasedWaiter u)
row_of_release_waiter m t u x d none free first is items =
    rule-is m _ (λ w. release_rule w t) (λ w. record { reply = reply.ReleasedWaiter u; world = record w { waiters = leave w.waiters t u } }) _
    (λ w s. no_buckets m w t s none free ∙ first_waiter w t u (seconds_of w.waiters t) (ap (λ xs. slice_get xs 0) (sym (s.shows.txns.waiting_lists t)) ∙ first))
    (record {
      reply = λ w s. refl;
      shows = λ w s. let h = s.shows in record {
        clock = h.clock;
        store = h.store;
        txns = rw is (shows-unwaited m.txns w t u (waiting_list_of x t) d (reachable-sound w s.reachable).waiters_once (waited_first m w t u s first) items h.txns);
        buckets = h.buckets;
      };
    })

-- ---- nothing
