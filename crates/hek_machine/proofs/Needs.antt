-- The count of effects by list, and those left to count.
use Rattle.std.proofs.Common.{◌≡◌, ℕ, ◌+◌, ◌≤◌, List, [], ◌∷◌, refl, arith, length, drop}
use Rattle.hek_rules.specs.declared.event.Effect.{Effect}
use Rattle.hek_rules.specs.declared.event.Effect.TheVariants.{LockBucket, DependOn, MakeWait, ReadLock, WriteLock}
use Rattle.hek_machine.specs.Room.{reads_in, writes_in, wait_effects, buckets_in}

-- the count of a list of effects is that of the first and that of the others
pub reads-first : (e : Effect) (es : List Effect) → reads_in (e ∷ es) ≡ reads_in (e ∷ []) + reads_in es
reads-first (LockBucket b) es = omega arith
reads-first (DependOn u) es = omega arith
reads-first (MakeWait u) es = omega arith
reads-first (ReadLock v) es = omega arith
reads-first (WriteLock v) es = omega arith

pub writes-first : (e : Effect) (es : List Effect) → writes_in (e ∷ es) ≡ writes_in (e ∷ []) + writes_in es
writes-first (LockBucket b) es = omega arith
writes-first (DependOn u) es = omega arith
writes-first (MakeWait u) es = omega arith
writes-first (ReadLock v) es = omega arith
writes-first (WriteLock v) es = omega arith

pub waits-first : (e : Effect) (es : List Effect) → wait_effects (e ∷ es) ≡ wait_effects (e ∷ []) + wait_effects es
waits-first (LockBucket b) es = omega arith
waits-first (DependOn u) es = omega arith
waits-first (MakeWait u) es = omega arith
waits-first (ReadLock v) es = omega arith
waits-first (WriteLock v) es = omega arith

pub buckets-first : (e : Effect) (es : List Effect) → buckets_in (e ∷ es) ≡ buckets_in (e ∷ []) + buckets_in es
buckets-first (LockBucket b) es = omega arith
buckets-first (DependOn u) es = omega arith
buckets-first (MakeWait u) es = omega arith
buckets-first (ReadLock v) es = omega arith
buckets-first (WriteLock v) es = omega arith

-- a list of effects counts at most one for each
few : (f : List Effect → ℕ) → f [] ≡ 0 → ((e : Effect) (es : List Effect) → f (e ∷ es) ≡ f (e ∷ []) + f es) → ((e : Effect) → f (e ∷ []) ≤ 1) → (es : List Effect) → f es ≤ length es
few f none first one [] = omega (arith, none)
few f none first one (e ∷ es) = let rest = few f none first one es in let a = first e es in let b = one e in omega (arith, rest, a, b)

pub writes-few : (es : List Effect) → writes_in es ≤ length es
writes-few es = few writes_in refl writes-first one es
  where
    one : (e : Effect) → writes_in (e ∷ []) ≤ 1
    one (LockBucket b) = omega arith
    one (DependOn u) = omega arith
    one (MakeWait u) = omega arith
    one (ReadLock v) = omega arith
    one (WriteLock v) = omega arith

pub waits-few : (es : List Effect) → wait_effects es ≤ length es
waits-few es = few wait_effects refl waits-first one es
  where
    one : (e : Effect) → wait_effects (e ∷ []) ≤ 1
    one (LockBucket b) = omega arith
    one (DependOn u) = omega arith
    one (MakeWait u) = omega arith
    one (ReadLock v) = omega arith
    one (WriteLock v) = omega arith

-- the count so far and that of the effects left are the whole count, and it is at most the number counted
pub record Counted (f : List Effect → ℕ) (es : List Effect) (i n : ℕ) : Type 0 where
  pub whole : n + f (drop i es) ≡ f es
  pub small : n ≤ i
