-- What the answers of a transaction say of keys that it had not changed itself before.
use Rattle.std.specs.Prelude.{ℕ, ◌≡◌, ◌⊎◌, Bool, true, if◌then◌else◌, List, Option, Some, None, slice_get, take}
use Rattle.hek_rules.specs.Listing.{value_of}
use Rattle.hek_history.specs.declared.history.Operation.{Operation}
use Rattle.hek_history.specs.declared.history.Operation.TheVariants.{Read, Put, Insert, Update, Delete, Scan}
use Rattle.hek_history.specs.Answers.{key_of, covers}
use Rattle.hek_levels.specs.declared.log.Need.{Need}
use Rattle.hek_levels.specs.declared.log.Need.TheVariants.{Absent, Present, Value}
use Rattle.hek_levels.specs.declared.log.Read.{Read as TheRead}
use Rattle.hek_levels.specs.declared.log.Scan.{Scan as TheScan}
use Rattle.hek_levels.specs.declared.log.Place.{Place}
use Rattle.hek_levels.specs.declared.log.Place.TheVariants as place
use Rattle.hek_levels.specs.Logs.{missing_in}
use Rattle.hek_history_levels.specs.Changes.{left_by}

-- a value is found, or absence
abbrev pub need_of : Option ℕ → Need
need_of None = Absent
need_of (Some x) = Value x

-- what an answer says of the operation's key, if it says something
abbrev pub need_at : Operation → Option Need
need_at (Read key found) = Some (need_of found)
need_at (Put key value) = None
need_at (Insert key value done) = Some (if done then Absent else Present)
need_at (Update key value done) = Some (if done then Present else Absent)
need_at (Delete key done) = Some (if done then Present else Absent)
need_at (Scan scope pairs) = None

-- one of the pairs has the key with the value that is needed
abbrev pub IsPaired : List (ℕ × ℕ) → ℕ → Need → Type 0
IsPaired pairs key need = (i : ℕ) × (v : ℕ) × (slice_get pairs i ≡ Some (key, v)) × (need ≡ Value v)

-- what an answer says of a key: a scan has its pairs, and no other key of its scope is there
abbrev pub Says : Operation → ℕ → Need → Type 0
Says (Scan scope pairs) key need = IsPaired pairs.items key need ⊎ ((covers scope key ≡ true) × (value_of pairs.items key ≡ None) × (need ≡ Absent))
Says op key need = (key_of op ≡ key) × (need_at op ≡ Some need)

-- no answer of absence by a lenient transaction is judged
abbrev pub IsJudged : Bool → Need → Type 0
IsJudged lenient need = lenient ≡ true → need ≡ Absent → ⊥

-- the n-th operation says this of a key that none before it changes
pub record IsRead (lenient : Bool) (ops : List Operation) (n key : ℕ) (need : Need) : Type 0 where
  pub op : Operation
  pub there : slice_get ops n ≡ Some op
  pub says : Says op key need
  pub unchanged : left_by (take n ops) key ≡ None
  pub judged : IsJudged lenient need

-- the read at a place of reads and scans
abbrev pub read_of : List TheRead → List TheScan → Place → Option TheRead
read_of reads scans (place.Listed r) = slice_get reads r
read_of reads scans (place.Missing s key) = missing_in (slice_get scans s) key

-- reads and scans have this one
abbrev pub HasRead : List TheRead → List TheScan → ℕ → ℕ → Need → Type 0
HasRead reads scans n k need = (r : Place) × (read_of reads scans r ≡ Some (record { operation = n; key = k; need = need }))
