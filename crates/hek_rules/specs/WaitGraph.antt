-- Deadlock: the wait graph of the finished transactions that wait, and its victim.
-- (Section 4 of the paper: deadlock detection.)
use Rattle.std.specs.Prelude.{ℕ, ◌+◌, Bool, not, ◌&&◌, ◌||◌, ◌==◌, nat_lt, List, Option, length}
use Rattle.std.specs.List.{list_any}
use Rattle.hek_rules.specs.Listing.{has}
use Rattle.hek_rules.specs.World.{World, txn_in, version_in, is_held_by, is_active}
use Rattle.hek_rules.specs.Waits.{waits}
use Rattle.hek_rules.specs.Victim.{victim_of}

-- a node of the wait graph: a transaction that is Active, has finished, and waits for something
abbrev pub is_node : World → ℕ → Bool
is_node w u = is_active (txn_in w.txns u).state && (txn_in w.txns u).no_more_waits && nat_lt 0 (waits w u)

-- u waits for t by a version: t read-locks a version that u writes
abbrev pub waits_by_version : World → ℕ → ℕ → Bool
waits_by_version w u t =
    list_any (λ (p : ℕ × ℕ). p.0 == t && is_held_by u (version_in w.versions p.1).ender) w.read_locks

-- an edge of the wait graph: the node u waits for the node t, by a version or in the waiting list of t
abbrev pub is_edge : World → ℕ → ℕ → Bool
is_edge w u t = is_node w u && is_node w t && not (u == t) && (waits_by_version w u t || has w.waiters t u)

-- the victim with its cycle, if there is a cycle
abbrev pub victim : World → Option (ℕ × List ℕ)
victim w = victim_of (is_edge w) (length w.txns + 1)
