-- Read uncommitted: what each committed transaction found was at some time there.
use Rattle.std.specs.Prelude.{ℕ, zero, suc, ◌≡◌, ◌<◌, ◌==◌, ◌&&◌, ◌||◌, not, Bool, true, false, if◌then◌else◌, List, [], ◌∷◌, Option, Some, None, length}
use Rattle.std.specs.HashMap.{get}
use Rattle.hek_rules.specs.Listing.{value_of}
use Rattle.hek_levels.specs.declared.log.Log.{Log}
use Rattle.hek_levels.specs.declared.log.Transaction.{Transaction}
use Rattle.hek_levels.specs.declared.log.Need.{Need}
use Rattle.hek_levels.specs.declared.log.Need.TheVariants.{Absent, Present, Value}
use Rattle.hek_levels.specs.declared.log.Read.{Read}
use Rattle.hek_levels.specs.declared.log.Place.{Place}
use Rattle.hek_levels.specs.declared.log.Change.{Change}
use Rattle.hek_levels.specs.declared.uncommitted.Who.{Who}
use Rattle.hek_levels.specs.declared.uncommitted.Who.TheVariants.{One, Several}
use Rattle.hek_levels.specs.declared.uncommitted.Changers.{Changers}
use Rattle.hek_levels.specs.Logs.{meets, transaction, read_at, writes_of, is_committed, is_kept, aborted_by}
use Rattle.hek_levels.specs.Seen.{At}

-- the changes of t that a later one of its own undoes
abbrev pub passing_in : Option Transaction → List Change
passing_in None = []
passing_in (Some x) = x.passing.items

abbrev pub passing_of : Log → ℕ → List Change
passing_of log t = passing_in (transaction log t)

-- whether a change is of the key, and what it leaves meets the need
abbrev pub does_meet : ℕ → Need → Change → Bool
does_meet key need c = (c.key == key) && meets need c.value

abbrev pub is_met_in : ℕ → Need → List Change → Bool
is_met_in key need [] = false
is_met_in key need (c ∷ cs) = does_meet key need c || is_met_in key need cs

-- whether x at some time left at the key what meets the need
abbrev pub did_leave : Log → ℕ → ℕ → Need → Bool
did_leave log x key need = is_met_in key need (writes_of log x) || is_met_in key need (passing_of log x)

-- whether one of the first n transactions did, and is not t
abbrev pub did_other_leave : Log → ℕ → ℕ → Need → ℕ → Bool
did_other_leave log t key need zero = false
did_other_leave log t key need (suc n) = did_other_leave log t key need n || (not (n == t) && did_leave log n key need)

-- whether what a read of t found is what the opening has, or what a change of another transaction left
abbrev pub is_found : Log → ℕ → Read → Bool
is_found log t read = meets read.need (value_of log.rows.items read.key) || did_other_leave log t read.key read.need (length log.transactions.items)

-- each read of t found what was at some time there
abbrev pub AreFoundBy : Log → ℕ → Type 0
AreFoundBy log t = (r : Place) (read : Read) → read_at log t r ≡ Some read → is_found log t read ≡ true

-- the same of each that is known to have committed
abbrev pub AreFound : Log → Type 0
AreFound log = (t : ℕ) → is_committed log t ≡ true → AreFoundBy log t

-- t is known to have committed, and its read at a place found what was never there
abbrev pub IsLost : Log → ℕ → Place → Type 0
IsLost log t r = (is_committed log t ≡ true) × (read : Read) × (read_at log t r ≡ Some read) × (is_found log t read ≡ false)

-- whether t did not abort
abbrev pub alive_in : Option Transaction → Bool
alive_in None = false
alive_in (Some x) = not (aborted_by x.status)

abbrev pub is_alive : Log → ℕ → Bool
is_alive log t = alive_in (transaction log t)

-- an order of all that are known to have committed, and others that did not abort, that keeps turns
pub record IsInTurn (log : Log) (order : List ℕ) : Type 0 where
  pub alive : (i t : ℕ) → At order i t → is_alive log t ≡ true
  pub once : (i j t : ℕ) → At order i t → At order j t → i ≡ j
  pub committed : (t : ℕ) → is_committed log t ≡ true → (i : ℕ) × At order i t
  pub turns : (i j x t : ℕ) → At order i x → At order j t → is_kept log x t ≡ true → i < j

-- each read found what was at some time there, and some order keeps turns
abbrev pub IsReadUncommitted : Log → Type 0
IsReadUncommitted log = AreFound log × ((order : List ℕ) × IsInTurn log order)

-- a transaction without its reads and writes
abbrev pub IsBareOf : Option Transaction → Option Transaction → Type 0
IsBareOf None None = Unit {0}
IsBareOf None (Some y) = ⊥
IsBareOf (Some x) None = ⊥
IsBareOf (Some x) (Some y) =
    (y.status ≡ x.status) × (y.fits ≡ true) × (y.turns.items ≡ x.turns.items) × (y.reads.items ≡ []) × (y.scans.items ≡ []) × (y.writes.items ≡ [])

-- a log without reads and writes
abbrev pub IsBare : Log → Log → Type 0
IsBare log bare = (t : ℕ) → IsBareOf (transaction log t) (transaction bare t)

-- ---- an index of who leaves what

abbrev pub with_one : Option Who → ℕ → Option Who
with_one None t = Some (One t)
with_one (Some (One x)) t = if x == t then Some (One x) else Some Several
with_one (Some Several) t = Some Several

-- whether one of them is not t
abbrev pub is_other : Option Who → ℕ → Bool
is_other None t = false
is_other (Some (One x)) t = not (x == t)
is_other (Some Several) t = true

-- who leaves at the key what meets the need
abbrev pub who_in : Changers → ℕ → Need → Option Who
who_in changers key Absent = get ◌==◌ changers.absent key
who_in changers key Present = get ◌==◌ changers.present key
who_in changers key (Value y) = get (λ (a b : ℕ × ℕ). (a.0 == b.0) && (a.1 == b.1)) changers.values (key, y)

-- with these changes of t
abbrev pub who_by : ℕ → Need → ℕ → List Change → Option Who → Option Who
who_by key need t [] who = who
who_by key need t (c ∷ cs) who = who_by key need t cs (if does_meet key need c then with_one who t else who)

-- with all changes of t
abbrev pub who_with : Log → ℕ → Need → ℕ → Option Who → Option Who
who_with log key need t who = who_by key need t (passing_of log t) (who_by key need t (writes_of log t) who)

-- with those of the first n transactions
abbrev pub who_below : Log → ℕ → Need → ℕ → Option Who → Option Who
who_below log key need zero who = who
who_below log key need (suc n) who = who_with log key need n (who_below log key need n who)

-- the index knows who leaves what
abbrev pub IsIndex : Log → Changers → Type 0
IsIndex log changers = (key : ℕ) (need : Need) → who_in changers key need ≡ who_below log key need (length log.transactions.items) None
