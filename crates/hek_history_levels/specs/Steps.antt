-- The log of a history, as levels see it.
use Rattle.std.specs.Prelude.{ℕ, ◌≡◌, ◌↔◌, Bool, true, false, List, [], Option, Some, None, slice_get, length, IsTrue}
use Rattle.std.specs.Global.{Vec}
use Rattle.hek_history.specs.declared.history.History.{History}
use Rattle.hek_history.specs.declared.history.Transaction.{Transaction}
use Rattle.hek_history.specs.declared.history.Level.{Level}
use Rattle.hek_history.specs.declared.history.Level.TheVariants.{Serializable, Snapshot, Repeatable}
use Rattle.hek_levels.specs.declared.log.Log.{Log}
use Rattle.hek_levels.specs.declared.log.Transaction.{Transaction as TheTransaction}
use Rattle.hek_levels.specs.declared.log.Need.{Need}
use Rattle.hek_levels.specs.declared.log.Turn.{Turn}
use Rattle.hek_levels.specs.declared.log.Change.{Change}
use Rattle.hek_levels.specs.Logs.{left_in}
use Rattle.hek_history_levels.specs.Changes.{left_by, IsPassing}
use Rattle.hek_history_levels.specs.Reads.{IsRead, HasRead}
use Rattle.hek_history_levels.specs.Fits.{AreFitting}

-- whether no answer of absence is judged
abbrev pub is_lenient : Level → Bool
is_lenient Serializable = false
is_lenient Snapshot = false
is_lenient Repeatable = true

abbrev pub turns_in : Option (Vec Turn) → List Turn
turns_in None = []
turns_in (Some turns) = turns.items

-- the turns of t; one for which none are given has none
abbrev pub turns_at : List (Vec Turn) → ℕ → List Turn
turns_at turns t = turns_in (slice_get turns t)

-- the change is among these
abbrev pub IsIn : List Change → Change → Type 0
IsIn changes c = (i : ℕ) × (slice_get changes i ≡ Some c)

-- y is the transaction x as levels see it, with these turns
pub record IsSeen (given : List Turn) (x : Transaction) (y : TheTransaction) : Type 0 where
  pub status : y.status ≡ x.status
  pub turns : y.turns.items ≡ given
  pub fits : IsTrue y.fits ↔ AreFitting (is_lenient x.level) x.operations.items
  pub reads : (n key : ℕ) (need : Need) → HasRead y.reads.items y.scans.items n key need ↔ IsRead (is_lenient x.level) x.operations.items n key need
  pub writes : (key : ℕ) → left_in y.writes.items key ≡ left_by x.operations.items key
  pub passing : (c : Change) → IsIn y.passing.items c ↔ IsPassing x.operations.items (length x.operations.items) c

-- the transactions at these places
pub record AreSeen (turns : List (Vec Turn)) (h : History) (ys : List TheTransaction) : Type 0 where
  pub each : (t : ℕ) (x : Transaction) (y : TheTransaction) → slice_get h.transactions.items t ≡ Some x → slice_get ys t ≡ Some y → IsSeen (turns_at turns t) x y

pub record IsLogOf (h : History) (turns : List (Vec Turn)) (log : Log) : Type 0 where
  pub rows : log.rows.items ≡ h.rows.items
  pub count : length log.transactions.items ≡ length h.transactions.items
  pub seen : AreSeen turns h log.transactions.items
