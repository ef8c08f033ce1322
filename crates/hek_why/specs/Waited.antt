-- What a transaction waits for, and on which transactions its commit depends, member by member.
-- (Section 4 of the paper: wait-for dependencies; section 2: commit dependencies.)
use Rattle.std.specs.Prelude.{ℕ, zero, suc, ◌==◌, Bool, false, if◌then◌else◌, List, [], ◌∷◌, ◌++◌, Option, find, length, map}
use Rattle.std.specs.List.{list_any}
use Rattle.hek_rules.specs.declared.event.WriteEntry.{WriteEntry}
use Rattle.hek_rules.specs.declared.event.WriteEntry.TheVariants.{BeginOf, EndOf}
use Rattle.hek_rules.specs.Listing.{has}
use Rattle.hek_rules.specs.World.{World, places, bucket_of}
use Rattle.hek_rules.specs.Waits.{is_waited_for}
use Rattle.hek_rules.specs.Shown.{bucket_set, write_set}
use Rattle.hek_why.specs.Passed.{version_passes}
use Rattle.hek_why.specs.declared.reason.Reason.{Reason}
use Rattle.hek_why.specs.declared.reason.Reason.TheVariants.{ReadLocked, Listed, Depends}

-- the IDs from 1 to n that pass the test, rising
abbrev pub ids_where : (ℕ → Bool) → ℕ → List ℕ
ids_where test zero = []
ids_where test (suc n) = if test (suc n) then ids_where test n ++ suc n ∷ [] else ids_where test n

-- the transactions that pass the test
abbrev pub txns_where : World → (ℕ → Bool) → List ℕ
txns_where w test = ids_where test (length w.txns)

-- the transactions that read-lock version v
abbrev pub readers_in : World → ℕ → List ℕ
readers_in w v = txns_where w (λ t. has w.read_locks t v)

-- the versions that u writes and another transaction read-locks
abbrev pub held_over : World → ℕ → List ℕ
held_over w u = places (is_waited_for w.read_locks u) 0 w.versions

-- the transactions in whose WaitingTxnList u is
abbrev pub waiting_list_holders : World → ℕ → List ℕ
waiting_list_holders w u = txns_where w (λ t. has w.waiters t u)

-- the transactions on which the commit of t depends
abbrev pub depended_on : World → ℕ → List ℕ
depended_on w t = txns_where w (λ u. has w.dependents u t)

-- a write-set entry is a version made in bucket b
abbrev pub is_made_in : World → ℕ → WriteEntry → Bool
is_made_in w b (BeginOf v) = version_passes (λ v x. bucket_of w x.key == b) v w
is_made_in w b (EndOf v) = false

-- the first bucket that h locks and in which u made a version
abbrev pub shared_bucket : World → ℕ → ℕ → Option ℕ
shared_bucket w h u = find (λ b. list_any (is_made_in w b) (write_set w u)) (bucket_set w h)

-- what u waits for: versions, by index, and then holders of a bucket, by ID
abbrev pub waits_in : World → ℕ → List Reason
waits_in w u =
    map (λ v. ReadLocked v (readers_in w v)) (held_over w u) ++ map (λ h. Listed h (shared_bucket w h u)) (waiting_list_holders w u)

abbrev pub commits_in : World → ℕ → List Reason
commits_in w t = map (λ u. Depends u) (depended_on w t)
