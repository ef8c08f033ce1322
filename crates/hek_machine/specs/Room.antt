-- Room for the effects of a walk, reserved before the first effect is done.
use Rattle.std.specs.Prelude.{◌≡◌, ℕ, ◌+◌, ◌<◌, ◌≤◌, ◌⊎◌, true, false, List, [], ◌∷◌, length}
use Rattle.hek_rules.specs.declared.event.Effect.{Effect}
use Rattle.hek_rules.specs.declared.event.Effect.TheVariants.{LockBucket, DependOn, MakeWait, ReadLock, WriteLock}
use Rattle.hek_rules.specs.Listing.{is_among}
use Rattle.hek_laws.specs.Lists.{In}
use Rattle.hek_txn.specs.Entries.{AreCopies}
use Rattle.hek_txn.specs.TxnTable.{IsCopy, Declared, read_set_of, write_set_of, bucket_set_of, waiting_list_of, dependents_of}
use Rattle.hek_buckets.specs.LockLists.{holders_of}
use Rattle.hek_buckets.specs.Waited.{IsReady as CanWait}
use Rattle.hek_machine.specs.declared.engine.Engine.{Engine}

-- how many of the effects are read locks, which add to the read set
abbrev pub reads_in : List Effect → ℕ
reads_in [] = 0
reads_in (ReadLock v ∷ es) = reads_in es + 1
reads_in (e ∷ es) = reads_in es

-- how many of the effects are write locks, which add to the write set
abbrev pub writes_in : List Effect → ℕ
writes_in [] = 0
writes_in (WriteLock v ∷ es) = writes_in es + 1
writes_in (e ∷ es) = writes_in es

-- how many of the effects make a transaction wait, which add to the waiting list
abbrev pub wait_effects : List Effect → ℕ
wait_effects [] = 0
wait_effects (MakeWait u ∷ es) = wait_effects es + 1
wait_effects (e ∷ es) = wait_effects es

-- how many of the effects lock a bucket, which add to the bucket set
abbrev pub buckets_in : List Effect → ℕ
buckets_in [] = 0
buckets_in (LockBucket b ∷ es) = buckets_in es + 1
buckets_in (e ∷ es) = buckets_in es

-- the bucket or the transaction whose list gets t by an effect exists
abbrev pub IsThere : Engine → Effect → Type 0
IsThere m (LockBucket b) = b < length m.buckets
IsThere m (DependOn u) = Declared m.txns u
IsThere m (MakeWait u) = Unit {0}
IsThere m (ReadLock v) = Unit {0}
IsThere m (WriteLock v) = Unit {0}

-- the list of a bucket or another transaction that gets t by an effect has room, or contains t
abbrev pub IsEffectReady : Engine → ℕ → Effect → Type 0
IsEffectReady m t (LockBucket b) = is_among (holders_of m.buckets b).items t ≡ false → 0 < (holders_of m.buckets b).room
IsEffectReady m t (DependOn u) = is_among (dependents_of m.txns u).items t ≡ false → 0 < (dependents_of m.txns u).room
IsEffectReady m t (MakeWait u) = Unit {0}
IsEffectReady m t (ReadLock v) = Unit {0}
IsEffectReady m t (WriteLock v) = Unit {0}

-- room in t's lists for these effects and for `made` new versions, which add to the write set and the waiting list; and
-- room for t in the lists of others
pub record HasRoom (m : Engine) (t made : ℕ) (effects : List Effect) : Type 0 where
  pub reads : reads_in effects ≤ (read_set_of m.txns t).room
  pub writes : writes_in effects + made ≤ (write_set_of m.txns t).room
  pub waits : wait_effects effects + made ≤ (waiting_list_of m.txns t).room
  pub buckets : buckets_in effects ≤ (bucket_set_of m.txns t).room
  pub others : (e : Effect) → In e effects → IsEffectReady m t e

-- what making a version needs stays: the store and the lists of others have no less room, and only t may have locked a
-- bucket
pub record KeepsAdding (old new : Engine) (t : ℕ) : Type 0 where
  pub versions : old.store.room ≤ new.store.room
  pub joins : (h : ℕ) → (h ≡ t → ⊥) → CanWait old.txns t h → CanWait new.txns t h
  pub holders : (b h : ℕ) → is_among (holders_of new.buckets b).items h ≡ true → (is_among (holders_of old.buckets b).items h ≡ true) ⊎ (h ≡ t)

-- an effect takes no more room than it adds, in each list of t
pub record KeepsRoom (old new : Engine) (t : ℕ) (effect : Effect) : Type 0 where
  pub reads : (read_set_of old.txns t).room ≤ (read_set_of new.txns t).room + reads_in (effect ∷ [])
  pub writes : (write_set_of old.txns t).room ≤ (write_set_of new.txns t).room + writes_in (effect ∷ [])
  pub waits : (waiting_list_of old.txns t).room ≤ (waiting_list_of new.txns t).room + wait_effects (effect ∷ [])
  pub buckets : (bucket_set_of old.txns t).room ≤ (bucket_set_of new.txns t).room + buckets_in (effect ∷ [])
  pub others : (e : Effect) → IsEffectReady old t e → IsEffectReady new t e
  pub adding : KeepsAdding old new t

-- room for a version of a bucket: in the store, and for t in the waiting lists of those that lock the bucket
pub record CanMake (m : Engine) (t b : ℕ) : Type 0 where
  pub version : 0 < m.store.room
  pub joins : (h : ℕ) → (h ≡ t → ⊥) → is_among (holders_of m.buckets b).items h ≡ true → CanWait m.txns t h

-- equal parts whose lists have no less room
pub record Reserved (old new : Engine) : Type 0 where
  pub clock : new.clock ≡ old.clock
  pub store_buckets : new.store.buckets ≡ old.store.buckets
  pub versions : new.store.versions ≡ old.store.versions
  pub txns : IsCopy old.txns new.txns
  pub holders : AreCopies old.buckets new.buckets
  pub more_reads : (t : ℕ) → (read_set_of old.txns t).room ≤ (read_set_of new.txns t).room
  pub more_writes : (t : ℕ) → (write_set_of old.txns t).room ≤ (write_set_of new.txns t).room
  pub more_buckets : (t : ℕ) → (bucket_set_of old.txns t).room ≤ (bucket_set_of new.txns t).room
  pub more_waiters : (t : ℕ) → (waiting_list_of old.txns t).room ≤ (waiting_list_of new.txns t).room
  pub more_dependents : (t : ℕ) → (dependents_of old.txns t).room ≤ (dependents_of new.txns t).room
  pub more_holders : (b : ℕ) → (holders_of old.buckets b).room ≤ (holders_of new.buckets b).room
  pub more_versions : old.store.room ≤ new.store.room

abbrev pub AreReady : Engine → ℕ → List Effect → Type 0
AreReady m t effects = (e : Effect) → In e effects → IsEffectReady m t e

-- room for t in the waiting list of each of these transactions
abbrev pub AreJoined : Engine → ℕ → List ℕ → Type 0
AreJoined m t holders = (h : ℕ) → is_among holders h ≡ true → CanWait m.txns t h
