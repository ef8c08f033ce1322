-- The counts of a world: readers of a version, waits and commit dependencies of a transaction.
use Rattle.std.specs.Prelude.{ℕ, ◌+◌, Bool, ◌&&◌, nat_lt, List, length}
use Rattle.hek_rules.specs.Listing.{firsts_of}
use Rattle.hek_rules.specs.World.{World, Version, places, is_held_by}

-- how many transactions read-lock the version: ReadLockCount
abbrev pub readers : List (ℕ × ℕ) → ℕ → ℕ
readers read_locks v = length (firsts_of read_locks v)

-- u is the writer of the version, and some transaction read-locks it
abbrev pub is_waited_for : List (ℕ × ℕ) → ℕ → ℕ → Version → Bool
is_waited_for read_locks u v x = is_held_by u x.ender && nat_lt 0 (readers read_locks v)

-- how much u waits for (WaitForCounter): versions that u writes and others read, and transactions whose waiter it is
abbrev pub waits : World → ℕ → ℕ
waits w u = length (places (is_waited_for w.read_locks u) 0 w.versions) + length (firsts_of w.waiters u)

-- on how many transactions t depends: CommitDepCounter
abbrev pub commit_deps : World → ℕ → ℕ
commit_deps w t = length (firsts_of w.dependents t)
