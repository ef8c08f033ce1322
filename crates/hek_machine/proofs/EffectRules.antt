-- The calls for each effect of a walk: what they require, and what they leave.
use Rattle.std.proofs.Common.{◌≡◌, ℕ, ◌+◌, ◌<◌, ◌^◌, true, false, List, ◌∙◌, ap, sym, arith, length}
use Rattle.hek_rules.specs.Listing.{is_among}
use Rattle.hek_rules.specs.Words.{CanAdd, CanTakeWriter, readers_of}
use Rattle.hek_rules.specs.declared.event.Effect.{Effect}
use Rattle.hek_rules.specs.declared.event.Effect.TheVariants.{LockBucket, DependOn, MakeWait, ReadLock, WriteLock}
use Rattle.hek_store.specs.Stored.{version_at}
use Rattle.hek_txn.specs.TxnTable.{Declared, waits_of, bucket_set_of, read_set_of}
use Rattle.hek_buckets.specs.LockLists.{holders_of}
use Rattle.hek_locks.specs.Locked.{KnowsWriter, CanFree, CanWait, cleared_word, cleared_waits, reads_freely, to_write}
use Rattle.hek_refinement.proofs.Pairs.{among-seconds, among-firsts}
use Rattle.hek_refinement.proofs.Known.{begun-known}
use Rattle.hek_refinement.proofs.Clears.{knows-writer}
use Rattle.hek_refinement.proofs.Frees.{may-free}
use Rattle.hek_refinement.proofs.ReadLocks.{may-add, may-count}
use Rattle.hek_refinement.proofs.WriteLocks.{may-take, has-own, may-wait}
use Rattle.hek_machine.specs.declared.engine.Engine.{Engine}
use Rattle.hek_machine.specs.Applied.{IsAble}

-- ---- what the calls require

pub able_depended : (m : Engine) (t u : ℕ) → IsAble m t (DependOn u) → Declared m.txns u
able_depended m t u a = begun-known m.txns a.world u a.can.shows.txns a.can.may

pub able_waiter : (m : Engine) (t u : ℕ) → IsAble m t (MakeWait u) → Declared m.txns u
able_waiter m t u a = begun-known m.txns a.world u a.can.shows.txns a.can.may

pub able_version : (m : Engine) (t v : ℕ) → IsAble m t (ReadLock v) → v < length m.store.versions
able_version m t v a = let l = a.can.may.made in let c = a.can.shows.store.count in omega (arith, l, c)

pub able_target : (m : Engine) (t v : ℕ) → IsAble m t (WriteLock v) → v < length m.store.versions
able_target m t v a = let l = a.can.may.made in let c = a.can.shows.store.count in omega (arith, l, c)

pub able_writer : (m : Engine) (t v : ℕ) (e : Effect) → IsAble m t e → KnowsWriter m.txns (version_at m.store v).end
able_writer m t v e a = knows-writer m.store m.txns a.world v a.can.sound a.can.shows.store a.can.shows.txns

pub able_freed : (m : Engine) (t v : ℕ) (e : Effect) → IsAble m t e → v < length m.store.versions → CanFree m.txns (version_at m.store v).end
able_freed m t v e a l =
    may-free m.store m.txns a.world v a.can.sound (let c = a.can.shows.store.count in omega (arith, l, c)) a.can.shows.store a.can.shows.txns

pub able_added : (m : Engine) (t v : ℕ) → IsAble m t (ReadLock v) → reads_freely m.store m.txns t v ≡ false → CanAdd (cleared_word m.txns.cores (version_at m.store v).end)
able_added m t v a = may-add m.store m.txns a.world t v a.can.may a.can.shows.store a.can.shows.txns

pub able_counted : (m : Engine) (t v : ℕ) (e : Effect) → IsAble m t e → CanWait (cleared_waits m.txns (version_at m.store v).end) (cleared_word m.txns.cores (version_at m.store v).end)
able_counted m t v e a = may-count m.store m.txns a.world v a.can.sound a.can.few a.can.shows.store a.can.shows.txns

pub able_own : (m : Engine) (t v : ℕ) → IsAble m t (WriteLock v) → is_among (read_set_of m.txns t).items v ≡ true → 0 < readers_of (cleared_word m.txns.cores (version_at m.store v).end)
able_own m t v a = has-own m.store m.txns a.world t v a.can.sound a.can.may a.can.shows.store a.can.shows.txns

pub able_taken : (m : Engine) (t v : ℕ) → IsAble m t (WriteLock v) → CanTakeWriter (to_write m.store m.txns t v)
able_taken m t v a = may-take m.store m.txns a.world t v a.can.sound a.can.may a.can.shows.store a.can.shows.txns

pub able_waiting : (m : Engine) (t v : ℕ) (e : Effect) → IsAble m t e → waits_of (cleared_waits m.txns (version_at m.store v).end) t + 1 < 2 ^ 64
able_waiting m t v e a = may-wait m.store m.txns a.world t v a.can.sound a.can.few a.can.shows.store a.can.shows.txns

-- a bucket that is not in t's bucket set does not have t among its holders
pub unlisted : (m : Engine) (t b : ℕ) → IsAble m t (LockBucket b) → is_among (bucket_set_of m.txns t).items b ≡ false → is_among (holders_of m.buckets b).items t ≡ false
unlisted m t b a h =
    let P : List (ℕ × ℕ) = a.world.bucket_locks in
    ap (λ xs. is_among xs t) (a.can.shows.buckets.holders b) ∙ among-firsts P t b
    ∙ sym (ap (λ xs. is_among xs b) (a.can.shows.txns.bucket_sets t) ∙ among-seconds P t b) ∙ h
