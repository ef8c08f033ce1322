-- The laws of serial transcripts and explanations, each in a sentence.
use Rattle.std.specs.Prelude.{ℕ, ◌<◌, List, [], ◌∷◌}
use Rattle.std.specs.Global.{Global}
use Rattle.hek_rules.specs.declared.event.Level.TheVariants.{Serializable}
use Rattle.hek_rules.specs.declared.serial.Verdict.TheVariants.{Serial}
use Rattle.hek_rules.specs.Recorded.{Recorded}
use Rattle.hek_rules.specs.Serial.{serial_order}
use Rattle.hek_rules.specs.Faults.{IsVerdict}
use Rattle.hek_serial.specs.Leveled.{at_level}
use Rattle.hek_history.specs.declared.history.History.{History}
use Rattle.hek_history.specs.declared.history.Point.{Point}
use Rattle.hek_history.specs.declared.history.Point.TheVariants.{Begin, Commit}
use Rattle.hek_history.specs.declared.history.Order.TheVariants.{Any, Versions, Times}
use Rattle.hek_history.specs.Explanation.{IsExplanationIn}
use Rattle.hek_history_laws.specs.Recording.{Records, IsShort}

-- each transaction of an order, at its place in a history, reads and commits at once
abbrev pub points_of : (ℕ → ℕ) → List (ℕ × ℕ) → List Point
points_of place [] = []
points_of place (x ∷ xs) = Begin (place x.1) ∷ Commit (place x.1) ∷ points_of place xs

-- Where a checker finds a transcript serial at the serializable level, a history that records it has the order of end times
-- as an explanation, whichever of three orders is asked for.
abbrev pub SerialRunsHaveExplanations : Type 0
SerialRunsHaveExplanations =
    (s : Recorded) (h : History) (place : ℕ → ℕ) →
    0 < s.buckets →
    IsVerdict (at_level Serializable s) Serial →
    Records h place s →
    let points = points_of place (serial_order s.history) in
    IsExplanationIn h Any points × IsExplanationIn h Versions points × IsExplanationIn h Times points

-- Each transcript that a checker finds serial at the serializable level is recorded by some history. The lists of a history
-- have an allocator.
abbrev pub SerialRunsAreRecorded : Type 0
SerialRunsAreRecorded =
    Global →
    (s : Recorded) →
    0 < s.buckets →
    IsShort s →
    IsVerdict (at_level Serializable s) Serial →
    (h : History) × (place : ℕ → ℕ) × Records h place s
