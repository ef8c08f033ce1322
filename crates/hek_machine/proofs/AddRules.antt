-- A version is made: what the calls require, and that the parts show the world with the version.
use Rattle.std.proofs.Common.{◌≡◌, ℕ, ◌+◌, ◌<◌, ◌≤◌, ◌^◌, ◌%◌, true, false, [], ◌∷◌, ◌++◌, ◌∙◌, ap, sym, subst, arith, None, ⊎_elim, length}
use Rattle.std.proofs.lemmas.Bool.{cases_eq}
use Rattle.std.specs.Prelude.{slice_index_or}
use Rattle.std.specs.List.{All}
use Rattle.hek_rules.specs.declared.event.WriteEntry.TheVariants.{BeginOf}
use Rattle.hek_rules.specs.declared.word.BeginRecord.TheVariants.{By}
use Rattle.hek_rules.specs.declared.word.EndRecord.TheVariants.{Until}
use Rattle.hek_rules.specs.Words.{IsTxn, infinity}
use Rattle.hek_rules.specs.Listing.{has, is_among, firsts_of}
use Rattle.hek_rules.specs.World.{World, Held, bucket_of, txn_in}
use Rattle.hek_rules.specs.Locks.{add_version, wait_for_holders}
use Rattle.std.proofs.Math.Nat.{mod-lt}
use Rattle.hek_refinement.specs.Shows.{ShowsTxns}
use Rattle.hek_refinement.proofs.Pairs.{among-firsts}
use Rattle.hek_laws.specs.Sound.{Sound}
use Rattle.hek_laws.proofs.Lists.Pairs.{few, once-firsts, firsts-In}
use Rattle.hek_laws.proofs.Sound.Grounded.{begun-range, present-begun}
use Rattle.hek_store.specs.Stored.{Stored}
use Rattle.hek_txn.specs.Entries.{joined, same_entry}
use Rattle.hek_txn.specs.TxnTable.{TxnTable, Declared, waits_of, write_set_of, with_write_set, waiting_list_of}
use Rattle.hek_buckets.specs.LockLists.{holders_of}
use Rattle.hek_buckets.specs.Waited.{IsReady, with_waiting, waiting_of, waiting_for_all}
use Rattle.hek_refinement.proofs.Known.{present-known, among-at, has-first}
use Rattle.hek_refinement.proofs.Inserts.{shows-added_store, shows-made_txns, shows-waiting}
use Rattle.hek_machine.specs.declared.engine.Engine.{Engine}
use Rattle.hek_machine.specs.Stands.{Shows}
use Rattle.hek_machine.specs.Room.{HasRoom, CanMake}
use Rattle.hek_machine.specs.Walked.{CanAddVersion, IsAdding}

pub add_named : (m : Engine) (t : ℕ) → IsAdding m t → IsTxn t
add_named m t a =
    let d = a.can.walker in let n = d.named in let l = d.within in let c = ap length a.can.shows.txns.cores in let k = a.can.named in (n, omega (arith, l, c, k))

pub add_room : (m : Engine) (t b : ℕ) → CanMake m t b → 0 < m.store.room
add_room m t b c = c.version

-- a transaction that locks a bucket is declared
holder-known : (m : Engine) (w : World) (t b h : ℕ) → CanAddVersion m t w → has w.bucket_locks h b ≡ true → Declared m.txns h
holder-known m w t b h a k = present-known m.txns w h a.shows.txns (a.sound.locker_present h b k)

holders-few : (w : World) (b : ℕ) → Sound w → length (firsts_of w.bucket_locks b) ≤ length w.txns
holders-few w b o =
    few (length w.txns) (firsts_of w.bucket_locks b) (once-firsts w.bucket_locks b o.buckets_once)
    (λ h i. begun-range w.txns h (present-begun (txn_in w.txns h).state (o.locker_present h b (firsts-In w.bucket_locks h b i))))

-- ---- the table with the write entry

pub add_holders : (m : Engine) (t b : ℕ) (x : TxnTable) → IsAdding m t → HasRoom m t 1 [] → CanMake m t b → x ≡ with_write_set m.txns t (write_set_of x t) →
    All (λ h. Declared x h × IsReady x t h) (holders_of m.buckets b).items
add_holders m t b x a r c is k d l = rw is
    (let known = holder-known m a.world t b h a.can there in (
      record { named = known.named; within = known.within },
      record {
        room = λ no. ⊎_elim (λ e. let own = r.waits in let same = ap (λ n. (waiting_list_of m.txns n).room) e in omega (arith, own, same)) (λ ne. (c.joins h ne (among-at (holders_of m.buckets b).items k d l)).room no) (cases_eq h t);
      },
    ))
  where
    h : ℕ
    h = slice_index_or (holders_of m.buckets b).items k d

    there : has a.world.bucket_locks h b ≡ true
    there = has-first a.world.bucket_locks b (holders_of m.buckets b).items k d (a.can.shows.buckets.holders b) l

pub add_counted : (m : Engine) (t b : ℕ) (x : TxnTable) → IsAdding m t → x ≡ with_write_set m.txns t (write_set_of x t) → waits_of x t + length (holders_of m.buckets b).items < 2 ^ 64
add_counted m t b x a is =
    let w : World = a.world in
    let same = ap (λ (y : TxnTable). waits_of y t) is in let count = a.can.shows.txns.waits t in let bound = a.can.sound.waits_bound t in
    let holders = ap length (a.can.shows.buckets.holders b) in let less = holders-few w b a.can.sound in
    let s = a.can.small in let n = a.can.named in omega (arith, same, count, bound, holders, less, s, n)

pub add_bucket : (m : Engine) (t key : ℕ) → IsAdding m t → key % m.store.buckets < length m.buckets
add_bucket m t key a =
    let w : World = a.world in
    let e = a.can.shows.store.buckets in let c = a.can.shows.buckets.count in
    subst (λ n. key % n < length m.buckets) (sym e) (subst (λ n. key % w.buckets < n) (sym c) (mod-lt key a.can.sound.buckets))

-- ---- the world with the version

pub add_shows : (m : Engine) (t key value : ℕ) (s : Stored) (x y : TxnTable) → s.buckets ≡ m.store.buckets →
    s.versions ≡ m.store.versions ++ record { key = key; value = value; begin = By t; end = Until infinity } ∷ [] →
    x ≡ with_write_set m.txns t (write_set_of x t) → (write_set_of x t).items ≡ joined same_entry (write_set_of m.txns t).items (BeginOf (length m.store.versions)) →
    y ≡ with_waiting x t y → waiting_of y t ≡ waiting_for_all t (waiting_of x t) (holders_of m.buckets (key % m.store.buckets)).items →
    (w : World) → CanAddVersion m t w → Shows (record m { store = s; txns = y }) (add_version w t key value)
add_shows m t key value s x y same grown is items frame waits w a = record {
  clock = h.clock;
  store = shows-added_store m.store s w t key value a.sound same grown h.store;
  txns = subst (λ hs. ShowsTxns y (record made { waiters = wait_for_holders hs t w.waiters })) holders
      (shows-waiting x y made t (holders_of m.buckets (key % m.store.buckets)).items known_t known frame waits written);
  buckets = h.buckets;
}
  where
    h : Shows m w
    h = a.shows

    made : World
    made = record w {
      versions = w.versions ++ record { key = key; value = value; creator = By t; ender = Held None false } ∷ [];
      writes = w.writes ++ (t, BeginOf (length w.versions)) ∷ [];
    }

    holders : (holders_of m.buckets (key % m.store.buckets)).items ≡ firsts_of w.bucket_locks (bucket_of w key)
    holders = a.shows.buckets.holders (key % m.store.buckets) ∙ ap (λ n. firsts_of w.bucket_locks (key % n)) a.shows.store.buckets

    written : ShowsTxns x made
    written =
        rw is
        (shows-made_txns m.txns w t key value (write_set_of x t) a.walker a.sound
        (items ∙ ap (λ n. joined same_entry (write_set_of m.txns t).items (BeginOf n)) a.shows.store.count) a.shows.txns)

    known_t : Declared x t
    known_t = let d = a.walker in subst (λ (z : TxnTable). Declared z t) (sym is) (record { named = d.named; within = d.within })

    known : (u : ℕ) → is_among (holders_of m.buckets (key % m.store.buckets)).items u ≡ true → Declared x u
    known u k =
        let there : has w.bucket_locks u (bucket_of w key) ≡ true = sym (ap (λ xs. is_among xs u) holders ∙ among-firsts w.bucket_locks u (bucket_of w key)) ∙ k in
        let d = holder-known m w t (bucket_of w key) u a there in subst (λ (z : TxnTable). Declared z u) (sym is) (record { named = d.named; within = d.within })
