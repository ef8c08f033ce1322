-- The points of a transcript: where each committed transaction reads and commits.
use Rattle.std.specs.Prelude.{ℕ, Bool, true, false, ◌&&◌, if◌then◌else◌, List, [], ◌∷◌, ◌++◌, Option, Some, None}
use Rattle.hek_rules.specs.declared.event.Level.{Level}
use Rattle.hek_rules.specs.declared.event.Level.TheVariants.{Serializable, Snapshot, Repeatable}
use Rattle.hek_rules.specs.declared.event.Event.{Event}
use Rattle.hek_rules.specs.declared.event.Event.TheVariants as event
use Rattle.hek_rules.specs.declared.reply.Reply.{Reply}
use Rattle.hek_rules.specs.declared.reply.Reply.TheVariants as reply
use Rattle.hek_rules.specs.Listing.{is_among}
use Rattle.hek_rules.specs.Recorded.{Recorded}
use Rattle.hek_rules.specs.Serial.{committed_in}
use Rattle.hek_rules.specs.Faults.{level_of}
use Rattle.hek_history.specs.declared.history.Point.{Point}
use Rattle.hek_history.specs.declared.history.Point.TheVariants.{Begin, Commit}

-- whether a level is snapshot; an ID that is not declared has none
abbrev pub is_snapshot_in : Option Level → Bool
is_snapshot_in None = false
is_snapshot_in (Some Serializable) = false
is_snapshot_in (Some Snapshot) = true
is_snapshot_in (Some Repeatable) = false

abbrev pub is_snapshot : Recorded → ℕ → Bool
is_snapshot s t = is_snapshot_in (level_of s.levels t)

abbrev pub commits : Recorded → ℕ → Bool
commits s t = is_among (committed_in s.history) t

-- The points of an event with its reply, if its transaction commits: at snapshot it reads where it begins, and commits where it
-- draws its end time; at the other levels it does both there.
abbrev pub points_at : (ℕ → ℕ) → Recorded → Event → Reply → List Point
points_at place s (event.Begin t) (reply.Began time) = if commits s t && is_snapshot s t then Begin (place t) ∷ [] else []
points_at place s (event.Precommit t) (reply.Precommitted time) =
    if commits s t then (if is_snapshot s t then Commit (place t) ∷ [] else Begin (place t) ∷ Commit (place t) ∷ []) else []
points_at place s e r = []

abbrev pub points_in : (ℕ → ℕ) → Recorded → List (Event × Reply) → List Point
points_in place s [] = []
points_in place s (p ∷ ps) = points_at place s p.0 p.1 ++ points_in place s ps

-- the points of the whole transcript, in its order
abbrev pub points_of : (ℕ → ℕ) → Recorded → List Point
points_of place s = points_in place s s.history
