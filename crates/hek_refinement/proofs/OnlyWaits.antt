-- Calls that change counters of waits or of dependencies alone.
use Rattle.std.proofs.Common.{◌≡◌, ℕ, ◌+◌, Bool, true, false, Some, None, refl, ◌∙◌, ap}
use Rattle.std.specs.Prelude.{◌==◌, nat_lt, if◌then◌else◌}
use Rattle.hek_rules.specs.Listing.{is_among}
use Rattle.hek_rules.specs.Words.{readers_of}
use Rattle.hek_rules.specs.declared.word.EndRecord.{EndRecord}
use Rattle.hek_rules.specs.declared.word.EndRecord.TheVariants.{Until, Lock}
use Rattle.hek_store.specs.Stored.{Stored, version_at}
use Rattle.hek_txn.specs.TxnTable.{TxnTable, commit_deps_of, with_commit_deps, dependents_of}
use Rattle.hek_commit.specs.Committed.{depended_deps}
use Rattle.hek_locks.specs.Locked.{fewer_waits, more_waits, writer_freed, is_stale, cleared_word, cleared_waits, writer_waits, reads_freely, read_lock_waits, to_write, write_lock_waits}

abbrev pub OnlyWaits : TxnTable → TxnTable → Type 0
OnlyWaits x y = y ≡ record x { waits = y.waits }

either : (x y z : TxnTable) (b : Bool) → OnlyWaits x y → OnlyWaits x z → OnlyWaits x (if b then y else z)
either x y z true p q = p
either x y z false p q = q

onward : (x y z : TxnTable) → OnlyWaits x y → OnlyWaits y z → OnlyWaits x z
onward x y z p q = q ∙ ap (λ (k : TxnTable). record k { waits = z.waits }) p

freed-only : (x : TxnTable) (e : EndRecord) → OnlyWaits x (writer_freed x e)
freed-only x (Until time) = refl
freed-only x (Lock readers None no_more) = refl
freed-only x (Lock readers (Some u) no_more) = either x (fewer_waits x u) x (nat_lt 0 readers) refl refl

cleared-only : (x : TxnTable) (e : EndRecord) → OnlyWaits x (cleared_waits x e)
cleared-only x e = either x (writer_freed x e) x (is_stale x.cores e) (freed-only x e) refl

waits-only : (x : TxnTable) (e : EndRecord) → OnlyWaits x (writer_waits x e)
waits-only x (Until time) = refl
waits-only x (Lock readers None no_more) = refl
waits-only x (Lock readers (Some u) no_more) = either x (more_waits x u) x (readers == 0) refl refl

pub read-only : (s : Stored) (x : TxnTable) (t v : ℕ) → OnlyWaits x (read_lock_waits s x t v)
read-only s x t v =
    let freed : TxnTable = cleared_waits x (version_at s v).end in
    either x x (writer_waits freed (cleared_word x.cores (version_at s v).end)) (reads_freely s x t v) refl
    (onward x freed (writer_waits freed (cleared_word x.cores (version_at s v).end)) (cleared-only x (version_at s v).end) (waits-only freed (cleared_word x.cores (version_at s v).end)))

pub write-only : (s : Stored) (x : TxnTable) (t v : ℕ) → OnlyWaits x (write_lock_waits s x t v)
write-only s x t v =
    let freed : TxnTable = cleared_waits x (version_at s v).end in
    either x (more_waits freed t) freed (nat_lt 0 (readers_of (to_write s x t v)))
    (onward x freed (more_waits freed t) (cleared-only x (version_at s v).end) refl) (cleared-only x (version_at s v).end)

abbrev pub OnlyDeps : TxnTable → TxnTable → Type 0
OnlyDeps x y = y ≡ record x { commit_deps = y.commit_deps }

pub depended-only : (x : TxnTable) (t u : ℕ) → OnlyDeps x (depended_deps x t u)
depended-only x t u = one (is_among (dependents_of x u).items t)
  where
    one : (b : Bool) → OnlyDeps x (if b then x else with_commit_deps x t (commit_deps_of x t + 1))
    one true = refl
    one false = refl
