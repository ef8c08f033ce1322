-- A list of few members, or of a set that is allocated where there are more.
use Rattle.std.specs.Prelude.{ℕ, ◌≤◌, List, Option, None, Some}
use Rattle.std.specs.Global.{Box}
use Rattle.hek_txn.specs.Entries.{Entries}

-- the members: those of the set, or where there is none the few
abbrev pub listed_items : {T : Type 0} → Entries T → Option (Box (Entries T)) → List T
listed_items few None = few.items
listed_items few (Some set) = set.value.items

-- what has the members has at least this much room
abbrev pub IsWithinRoom : {T : Type 0} → Entries T → Option (Box (Entries T)) → ℕ → Type 0
IsWithinRoom few None room = room ≤ few.room
IsWithinRoom few (Some set) room = room ≤ set.value.room
