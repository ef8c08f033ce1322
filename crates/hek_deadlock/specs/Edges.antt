-- The wait graph of a store and a table of transactions, and its victim.
-- (Section 4 of the paper: deadlock detection.)
use Rattle.std.specs.Prelude.{ℕ, ◌≡◌, ◌+◌, ◌<◌, Bool, true, false, not, ◌&&◌, ◌||◌, ◌==◌, nat_lt, List, Option, Some, None, length}
use Rattle.std.specs.List.{list_any}
use Rattle.hek_rules.specs.Listing.{is_among}
use Rattle.hek_rules.specs.Victim.{victim_of}
use Rattle.hek_rules.specs.Words.{writer_of}
use Rattle.hek_rules.specs.declared.event.State.TheVariants.{Active}
use Rattle.hek_rules.specs.World.{txn_in, is_active}
use Rattle.hek_store.specs.Stored.{Stored, version_at}
use Rattle.hek_txn.specs.TxnTable.{TxnTable, Declared, waits_of, read_set_of, waiting_list_of}

-- a node of the wait graph: a transaction that is Active, has finished, and waits for something
abbrev pub is_node : TxnTable → ℕ → Bool
is_node x u = is_active (txn_in x.cores u).state && (txn_in x.cores u).no_more_waits && nat_lt 0 (waits_of x u)

abbrev pub is_named : Option ℕ → ℕ → Bool
is_named None u = false
is_named (Some t) u = t == u

-- u is the writer of one of these versions
unfoldable pub writes_one : Stored → List ℕ → ℕ → Bool
writes_one s versions u = list_any (λ (v : ℕ). is_named (writer_of (version_at s v).end) u) versions

-- the node u waits for the node t: u writes a version that t read-locks, or is in the waiting list of t
unfoldable pub is_edge : Stored → TxnTable → ℕ → ℕ → Bool
is_edge s x u t =
    is_node x u && is_node x t && not (u == t) && (writes_one s (read_set_of x t).items u || is_among (waiting_list_of x t).items u)

-- the victim with its cycle, if there is a cycle
abbrev pub victim_in : Stored → TxnTable → Option (ℕ × List ℕ)
victim_in s x = victim_of (is_edge s x) (length x.cores + 1)

-- a node other than t
abbrev pub is_other_node : TxnTable → ℕ → ℕ → Bool
is_other_node x t u = is_node x u && not (u == t)

-- a declared transaction that is a node: Active, finished, and waiting
pub record IsWaiting (x : TxnTable) (t : ℕ) : Type 0 where
  pub declared : Declared x t
  pub active : (txn_in x.cores t).state ≡ Active
  pub no_more_waits : (txn_in x.cores t).no_more_waits ≡ true
  pub waits : 0 < waits_of x t
