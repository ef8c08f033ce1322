-- The effects of an allowed walk, or the first of them: their conditions, and how they leave a version.
use Rattle.std.proofs.Common.{◌≡◌, ℕ, ◌<◌, Bool, false, List, [], ◌∷◌, ◌++◌, None}
use Rattle.hek_rules.specs.declared.event.State.TheVariants.{Active}
use Rattle.hek_rules.specs.declared.event.Effect.{Effect}
use Rattle.hek_rules.specs.declared.event.Effect.TheVariants.{LockBucket, DependOn, MakeWait, ReadLock, WriteLock}
use Rattle.hek_rules.specs.World.{World, Version, txn_in, places}
use Rattle.hek_rules.specs.Locks.{no_write_lock}
use Rattle.hek_rules.specs.Walk.{Allow, Purpose, walk, apply_all}
use Rattle.hek_laws.specs.Lists.{In}
use Rattle.hek_laws.proofs.Walks.Judged.{In-left}
use Rattle.hek_laws.proofs.Walks.Walked.{Moved, CanDo, CanAll, good-all, good-start}
use Rattle.hek_laws.proofs.Walks.Warrants.{Warrant, walk-warrant}
use Rattle.hek_laws.proofs.Walks.WriteOnce.{LocksOnce, walk-once}

-- effects of a walk of t over the versions of a bucket that pass a test
pub record Walking (w : World) (t : ℕ) (p : Purpose) (bucket : ℕ) (test : ℕ → Version → Bool) (es : List Effect) : Type 0 where
  pub state : (txn_in w.txns t).state ≡ Active
  pub no_more_waits : (txn_in w.txns t).no_more_waits ≡ false
  pub warrant : (e : Effect) → In e es → Warrant w t p bucket (places test 0 w.versions) e
  pub once : LocksOnce es
  pub there : bucket < w.buckets

pub walking : (w : World) (t : ℕ) (p : Purpose) (bucket : ℕ) (test : ℕ → Version → Bool) (es : List Effect) → (txn_in w.txns t).state ≡ Active → (txn_in w.txns t).no_more_waits ≡ false → walk w t p bucket (places test 0 w.versions) ≡ Allow es → bucket < w.buckets → Walking w t p bucket test es
walking w t p bucket test es a f ok there =
    record { state = a; no_more_waits = f; warrant = walk-warrant w t bucket (places test 0 w.versions) p es ok; once = walk-once w t p bucket test es ok; there = there }

locks-first : (xs ys : List Effect) → LocksOnce (xs ++ ys) → LocksOnce xs
locks-first [] ys o = tt
locks-first (x ∷ xs) ys o = ((λ v e i. o.0 v e (In-left (WriteLock v) xs ys i)), locks-first xs ys o.1)

-- the first effects of a walk are effects of a walk
pub walking-first : (w : World) (t : ℕ) (p : Purpose) (bucket : ℕ) (test : ℕ → Version → Bool) (xs ys : List Effect) → Walking w t p bucket test (xs ++ ys) → Walking w t p bucket test xs
walking-first w t p bucket test xs ys k =
    record { state = k.state; no_more_waits = k.no_more_waits; warrant = λ e i. k.warrant e (In-left e xs ys i); once = locks-first xs ys k.once; there = k.there }

-- one of the effects write-locks the version, which may be write-locked
abbrev pub Locks : World → List Effect → ℕ → Type 0
Locks w es v = (no_write_lock w v ≡ None) × In (WriteLock v) es

pub can-all : (w : World) (t : ℕ) (p : Purpose) (bucket : ℕ) (test : ℕ → Version → Bool) (es : List Effect) → Walking w t p bucket test es → CanAll (Locks w es) es
can-all w t p bucket test es k = record { each = each }
  where
    each : (e : Effect) → In e es → CanDo (Locks w es) e
    each (LockBucket b) i = tt
    each (DependOn u) i = tt
    each (MakeWait u) i = tt
    each (ReadLock v) i = tt
    each (WriteLock v) i = ((k.warrant (WriteLock v) i).4, i)

pub moved : (w : World) (t : ℕ) (p : Purpose) (bucket : ℕ) (test : ℕ → Version → Bool) (es : List Effect) → Walking w t p bucket test es → (v : ℕ) → Moved w t (Locks w es) (apply_all t w es) v
moved w t p bucket test es k = (good-all w t (Locks w es) k.state w es (can-all w t p bucket test es k) (good-start w t (Locks w es))).moved
