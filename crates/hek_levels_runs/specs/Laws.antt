-- What explanations of a history and serial transcripts say of levels, each in a sentence.
use Rattle.std.specs.Prelude.{ℕ, ◌≡◌, ◌<◌, true, false, List}
use Rattle.std.specs.Global.{Vec}
use Rattle.hek_rules.specs.declared.event.Level.TheVariants as engine
use Rattle.hek_rules.specs.declared.serial.Verdict.TheVariants.{Serial}
use Rattle.hek_rules.specs.Recorded.{Recorded}
use Rattle.hek_rules.specs.Serial.{serial_order}
use Rattle.hek_rules.specs.Faults.{IsVerdict}
use Rattle.hek_serial.specs.Leveled.{at_level}
use Rattle.hek_history.specs.declared.history.History.{History}
use Rattle.hek_history.specs.declared.history.Point.{Point}
use Rattle.hek_history.specs.declared.history.Point.TheVariants.{Begin, Commit}
use Rattle.hek_history.specs.Histories.{is_serializable, is_lenient}
use Rattle.hek_history.specs.Explanation.{At, Occurs, IsExplanation}
use Rattle.hek_history_laws.specs.Recording.{Records}
use Rattle.hek_history_laws.specs.Laws.{points_of}
use Rattle.hek_levels.specs.declared.log.Log.{Log}
use Rattle.hek_levels.specs.declared.log.Turn.{Turn}
use Rattle.hek_levels.specs.declared.rules.Asked.TheVariants as asked
use Rattle.hek_levels.specs.declared.rules.Level.{Level}
use Rattle.hek_levels.specs.declared.rules.Level.TheVariants as level
use Rattle.hek_levels.specs.Logs.{is_kept}
use Rattle.hek_levels.specs.Seen.{Explanation}
use Rattle.hek_levels.specs.Explanations.{Explains}
use Rattle.hek_levels.specs.Levels.{rules_of}
use Rattle.hek_levels.specs.Points.{commits_of}
use Rattle.hek_levels.specs.Uncommitted.{IsReadUncommitted}
use Rattle.hek_history_levels.specs.Steps.{IsLogOf}

-- points keep the turns of a log: of two transactions that both take place, one of which is before the other by turns, the one commits
-- before the other begins
abbrev pub KeepTurns : List Point → Log → Type 0
KeepTurns points log = (x t i j : ℕ) → is_kept log x t ≡ true → At points i (Commit x) → At points j (Begin t) → i < j

-- a log holds at a level: it has an explanation there, with this order of commits
abbrev pub HoldsAt : Level → Log → List ℕ → Type 0
HoldsAt level log order = (e : Explanation) × (e.order ≡ order) × Explains (asked.All (rules_of level)) log e

-- Where points explain a history and keep the turns of its log, and whoever takes place is serializable, with its answers of absence
-- judged, the log holds at the level serializable, by the order of the commits.
abbrev pub SerialExplanationsExplain : Type 0
SerialExplanationsExplain =
    (h : History) (points : List Point) (turns : List (Vec Turn)) (log : Log) →
    IsExplanation h points →
    ((t : ℕ) → Occurs points t → (is_serializable h t ≡ true) × (is_lenient h t ≡ false)) →
    IsLogOf h turns log →
    KeepTurns points log →
    HoldsAt level.Serializable log (commits_of points)

-- Where points explain a history and keep the turns of its log, and whoever takes place is serializable or at snapshot, so that its
-- answers of absence are judged, the log holds at the level snapshot, by the order of the commits.
abbrev pub SnapshotExplanationsExplain : Type 0
SnapshotExplanationsExplain =
    (h : History) (points : List Point) (turns : List (Vec Turn)) (log : Log) →
    IsExplanation h points →
    ((t : ℕ) → Occurs points t → is_lenient h t ≡ false) →
    IsLogOf h turns log →
    KeepTurns points log →
    HoldsAt level.Snapshot log (commits_of points)

-- Where a checker finds a transcript serial at the serializable level, the log of a history that records it, whose turns the order of end
-- times keeps, holds at each level by that order, and is read uncommitted.
abbrev pub SerialRunsHold : Type 0
SerialRunsHold =
    (s : Recorded) (h : History) (place : ℕ → ℕ) (turns : List (Vec Turn)) (log : Log) →
    0 < s.buckets →
    IsVerdict (at_level engine.Serializable s) Serial →
    Records h place s →
    IsLogOf h turns log →
    KeepTurns (points_of place (serial_order s.history)) log →
    ((level : Level) → HoldsAt level log (commits_of (points_of place (serial_order s.history)))) × IsReadUncommitted log
