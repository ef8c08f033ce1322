-- A store and a table of transactions that show the waits of a world; their victim is then the world's.
use Rattle.std.specs.Prelude.{ℕ, ◌≡◌}
use Rattle.hek_rules.specs.Shown.{end_word, read_set, waiting_list}
use Rattle.hek_rules.specs.Waits.{waits}
use Rattle.hek_rules.specs.WaitGraph.{victim}
use Rattle.hek_rules.specs.World.{World}
use Rattle.hek_store.specs.Stored.{Stored, version_at}
use Rattle.hek_txn.specs.TxnTable.{TxnTable, waits_of, read_set_of, waiting_list_of}
use Rattle.hek_deadlock.specs.Edges.{victim_in}

pub record ShowsWaits (s : Stored) (x : TxnTable) (w : World) : Type 0 where
  pub cores : x.cores ≡ w.txns
  pub waits : (t : ℕ) → waits_of x t ≡ waits w t
  pub read_sets : (t : ℕ) → (read_set_of x t).items ≡ read_set w t
  pub waiting_lists : (t : ℕ) → (waiting_list_of x t).items ≡ waiting_list w t
  pub ends : (v : ℕ) → (version_at s v).end ≡ end_word w v

abbrev pub VictimIsShown : Type 0
VictimIsShown = (s : Stored) (x : TxnTable) (w : World) → ShowsWaits s x w → victim_in s x ≡ victim w
