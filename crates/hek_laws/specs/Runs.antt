-- The runs that the laws are about: from the opening world of a schedule, at a first clock.
use Rattle.std.specs.List.{All, IsDistinct}
use Rattle.std.specs.Map.{keys_of}
use Rattle.std.specs.Prelude.{ℕ, ◌≡◌, ◌<◌, nat_eq, List}
use Rattle.hek_rules.specs.declared.event.Level.{Level}
use Rattle.hek_rules.specs.declared.event.Event.{Event}
use Rattle.hek_rules.specs.declared.event.Event.TheVariants as event
use Rattle.hek_rules.specs.Words.{infinity}
use Rattle.hek_rules.specs.World.{World, opening}
use Rattle.hek_rules.specs.Run.{run, transcript}
use Rattle.hek_rules.specs.Recorded.{Recorded}

-- no two rows have one key
abbrev pub HasDistinctKeys : List (ℕ × ℕ) → Type 0
HasDistinctKeys rows = IsDistinct nat_eq (keys_of rows)

-- a clock value at which a run may begin
abbrev pub IsFirstClock : ℕ → Type 0
IsFirstClock clock = (0 < clock) × (clock < infinity)

-- the record of a run that a checker judges
abbrev pub recorded_run : ℕ → List (ℕ × ℕ) → List Level → ℕ → List Event → Recorded
recorded_run buckets rows levels clock events =
    record { buckets = buckets; rows = rows; levels = levels; history = transcript (opening buckets rows levels clock) events }

-- a scan is of one of so many buckets; other events have no bucket
abbrev pub IsPlaced : ℕ → Event → Type 0
IsPlaced buckets (event.Scan t bucket) = bucket < buckets
IsPlaced buckets e = Unit {0}

-- a run leads to the world
pub record IsReachable (w : World) : Type 0 where
  pub buckets : ℕ
  pub rows : List (ℕ × ℕ)
  pub levels : List Level
  pub clock : ℕ
  pub events : List Event
  pub some_buckets : 0 < buckets
  pub distinct : HasDistinctKeys rows
  pub first : IsFirstClock clock
  pub placed : All (IsPlaced buckets) events
  pub same : w ≡ run (opening buckets rows levels clock) events
