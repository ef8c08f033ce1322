-- What contracts see of a schedule: its parts as lists, what fits into it, and the limits that every schedule keeps.
use Rattle.std.specs.Prelude.{ℕ, ◌+◌, ◌<◌, ◌≤◌, ◌^◌, Bool, ◌&&◌, not, nat_lt, nat_eq, IsTrue, List, map, length, position, Option}
use Rattle.std.specs.List.{AllByRecursion, IsDistinct, list_any}
use Rattle.std.specs.Option.{option_map}
use Rattle.std.specs.Str.{bytes_eq}
use Rattle.std.specs.Map.{keys_of}
use Rattle.hek_rules.specs.declared.event.Level.{Level}
use Rattle.hek_rules.specs.declared.event.Event.{Event}
use Rattle.hek_rules.specs.declared.event.Event.TheVariants as event
use Rattle.hek_rules.specs.Name.{is_name}

-- the limits of every schedule
abbrev pub max_buckets : ℕ
max_buckets = 1024

abbrev pub max_rows : ℕ
max_rows = 65536

abbrev pub max_txns : ℕ
max_txns = 1024

abbrev pub max_steps : ℕ
max_steps = 1000000

-- a schedule: the number of buckets, keys with values, names with levels, and steps, each in order of entry
pub record Plan : Type 0 where
  pub buckets : ℕ
  pub rows : List (ℕ × ℕ)
  pub txns : List (List ℕ × Level)
  pub steps : List Event

abbrev pub names_of : Plan → List (List ℕ)
names_of p = keys_of p.txns

-- the levels, ID 1 first
abbrev pub levels_of : Plan → List Level
levels_of p = map (λ t. t.1) p.txns

abbrev pub has_key : Plan → ℕ → Bool
has_key p key = list_any (nat_eq key) (keys_of p.rows)

abbrev pub has_name : Plan → List ℕ → Bool
has_name p name = list_any (bytes_eq name) (names_of p)

-- the ID of a name: its place plus one
abbrev pub id_of : Plan → List ℕ → Option ℕ
id_of p name = option_map (λ i. i + 1) (position (bytes_eq name) (names_of p))

-- an ID from 1 to the number of transactions
abbrev pub IsDeclared : ℕ → ℕ → Type 0
IsDeclared txns t = (0 < t) × (t ≤ txns)

-- a row: its key and its value are below 2^64
abbrev pub IsRow : ℕ × ℕ → Type 0
IsRow row = (row.0 < 2 ^ 64) × (row.1 < 2 ^ 64)

-- a step: its transaction is declared, its key and value are below 2^64, its bucket exists
abbrev pub IsStep : ℕ → ℕ → Event → Type 0
IsStep buckets txns (event.Begin t) = IsDeclared txns t
IsStep buckets txns (event.Read t k) = IsDeclared txns t × (k < 2 ^ 64)
IsStep buckets txns (event.Scan t b) = IsDeclared txns t × (b < buckets)
IsStep buckets txns (event.Insert t k v) = IsDeclared txns t × IsRow (k, v)
IsStep buckets txns (event.Update t k v) = IsDeclared txns t × IsRow (k, v)
IsStep buckets txns (event.Delete t k) = IsDeclared txns t × (k < 2 ^ 64)
IsStep buckets txns (event.Finish t) = IsDeclared txns t
IsStep buckets txns (event.Precommit t) = IsDeclared txns t
IsStep buckets txns (event.Release t) = IsDeclared txns t
IsStep buckets txns (event.Commit t) = IsDeclared txns t
IsStep buckets txns (event.Fail t) = IsDeclared txns t
IsStep buckets txns (event.Stamp t) = IsDeclared txns t
IsStep buckets txns (event.End t) = IsDeclared txns t
IsStep buckets txns event.Detect = Unit {0}

-- a row fits: there is room, and the key is new
abbrev pub row_fits : Plan → ℕ → Bool
row_fits p key = nat_lt (length p.rows) max_rows && not (has_key p key)

-- a transaction fits: there is room, the word is a name, and the name is new
abbrev pub txn_fits : Plan → List ℕ → Bool
txn_fits p name = (nat_lt (length p.txns) max_txns && is_name name) && not (has_name p name)

abbrev pub StepFits : Plan → Event → Type 0
StepFits p e = (length p.steps < max_steps) × IsStep p.buckets (length p.txns) e

-- a plan: within all limits, with distinct keys and names, and with steps that fit
pub record IsPlan (p : Plan) : Type 0 where
  pub buckets : (0 < p.buckets) × (p.buckets ≤ max_buckets)
  pub row_count : length p.rows ≤ max_rows
  pub txn_count : length p.txns ≤ max_txns
  pub step_count : length p.steps ≤ max_steps
  pub rows : AllByRecursion IsRow p.rows
  pub keys : IsDistinct nat_eq (keys_of p.rows)
  pub names : IsDistinct bytes_eq (names_of p)
  pub forms : AllByRecursion (λ name. IsTrue (is_name name)) (names_of p)
  pub steps : AllByRecursion (IsStep p.buckets (length p.txns)) p.steps
