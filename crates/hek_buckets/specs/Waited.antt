-- Waits because of a bucket: a waiting list and a wait counter change together.
-- (Section 4 of the paper: bucket locks, wait-for dependencies.)
use Rattle.std.specs.Prelude.{◌≡◌, ℕ, ◌+◌, ◌<◌, ◌==◌, ◌||◌, false, if◌then◌else◌, List, [], ◌∷◌, ◌++◌}
use Rattle.hek_rules.specs.Listing.{is_among}
use Rattle.hek_txn.specs.Entries.{items_of}
use Rattle.hek_txn.specs.TxnTable.{TxnTable, Declared, IsEven, entry_at, set_at, waits_of, with_waits, waiting_list_of}

-- the waiting lists of all transactions, and the WaitForCounter of one
pub record Waiting : Type 0 where
  pub lists : List (List ℕ)
  pub waits : ℕ

-- t waits for h, unless t is h or waits for h already
abbrev pub waiting_for : ℕ → Waiting → ℕ → Waiting
waiting_for t x h =
    if (h == t) || is_among (entry_at [] x.lists h) t then x
    else record { lists = set_at x.lists h (entry_at [] x.lists h ++ t ∷ []); waits = x.waits + 1 }

-- t waits for each of these transactions
abbrev pub waiting_for_all : ℕ → Waiting → List ℕ → Waiting
waiting_for_all t x [] = x
waiting_for_all t x (h ∷ hs) = waiting_for_all t (waiting_for t x h) hs

-- the waiting lists of the transactions, and the WaitForCounter of t
abbrev pub waiting_of : TxnTable → ℕ → Waiting
waiting_of ts t = record { lists = items_of ts.waiting_lists; waits = waits_of ts t }

-- the table with new waiting lists and a new WaitForCounter of t
abbrev pub with_waiting : TxnTable → ℕ → TxnTable → TxnTable
with_waiting ts t new = record (with_waits ts t (waits_of new t)) { waiting_lists = new.waiting_lists }

-- the WaitForCounter of u after u waits for t: one more, unless it waited for t before
abbrev pub imposed_waits : TxnTable → ℕ → ℕ → TxnTable
imposed_waits ts t u =
    if is_among (waiting_list_of ts t).items u then ts else with_waits ts u (waits_of ts u + 1)

-- the waiting list of h has room for t, or contains t
pub record IsReady (ts : TxnTable) (t h : ℕ) : Type 0 where
  pub room : is_among (waiting_list_of ts h).items t ≡ false → 0 < (waiting_list_of ts h).room

-- declared transactions, the length of each field, and room for t in the waiting lists stay
pub record StaysReady (old new : TxnTable) (t : ℕ) : Type 0 where
  pub declared : (h : ℕ) → Declared old h → Declared new h
  pub even : IsEven old → IsEven new
  pub ready : (h : ℕ) → Declared old h → IsReady old t h → IsReady new t h
