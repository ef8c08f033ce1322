-- The laws of runs with transactions at their own levels, each in a sentence.
use Rattle.std.specs.Prelude.{ℕ, ◌≡◌, ◌<◌, ◌+◌, ◌^◌, true, List, length, Some}
use Rattle.std.specs.Global.{Global}
use Rattle.hek_rules.specs.declared.event.Level.{Level}
use Rattle.hek_rules.specs.declared.event.Level.TheVariants.{Snapshot}
use Rattle.hek_rules.specs.declared.event.Event.{Event}
use Rattle.hek_rules.specs.Listing.{is_among}
use Rattle.hek_rules.specs.World.{opening}
use Rattle.hek_rules.specs.Run.{transcript}
use Rattle.hek_rules.specs.Serial.{begin_of, end_of, committed_in}
use Rattle.hek_rules.specs.Faults.{level_of}
use Rattle.hek_laws.specs.Runs.{HasDistinctKeys, IsFirstClock, recorded_run}
use Rattle.hek_history.specs.declared.history.History.{History}
use Rattle.hek_history.specs.declared.history.Order.TheVariants.{Any, Versions, Times}
use Rattle.hek_history.specs.Explanation.{IsExplanationIn}
use Rattle.hek_history_laws.specs.Recording.{IsShort}
use Rattle.hek_history_runs.specs.Written.{has_written}
use Rattle.hek_history_runs.specs.Recording.{Records}
use Rattle.hek_history_runs.specs.Points.{points_of}

-- In any run, whatever the events: where a committed snapshot transaction t writes a key, no committed transaction x that writes
-- the key ends between the begin and the end of t.
abbrev pub FirstCommittersWin : Type 0
FirstCommittersWin =
    (buckets clock : ℕ) (rows : List (ℕ × ℕ)) (levels : List Level) (events : List Event) →
    HasDistinctKeys rows →
    IsFirstClock clock →
    let h = transcript (opening buckets rows levels clock) events in
    (t x key begin end other : ℕ) →
    level_of levels t ≡ Some Snapshot →
    is_among (committed_in h) t ≡ true →
    is_among (committed_in h) x ≡ true →
    has_written h t key ≡ true →
    has_written h x key ≡ true →
    begin_of t h ≡ Some begin →
    end_of t h ≡ Some end →
    end_of x h ≡ Some other →
    begin < other →
    other < end →
    ⊥

-- Each run explains itself at its own levels, whatever the events: a history that records it, each committed transaction at its own
-- level, has the points of the run as an explanation, whichever of three orders is asked for.
abbrev pub RunsExplainThemselves : Type 0
RunsExplainThemselves =
    (buckets clock : ℕ) (rows : List (ℕ × ℕ)) (levels : List Level) (events : List Event) →
    0 < buckets →
    HasDistinctKeys rows →
    IsFirstClock clock →
    let s = recorded_run buckets rows levels clock events in
    (h : History) (place : ℕ → ℕ) →
    Records h place s →
    let points = points_of place s in
    IsExplanationIn h Any points × IsExplanationIn h Versions points × IsExplanationIn h Times points

-- Each run is recorded by some history, if its lists are no longer than a program's can be. The lists of a history have an
-- allocator.
abbrev pub RunsAreRecorded : Type 0
RunsAreRecorded =
    Global →
    (buckets clock : ℕ) (rows : List (ℕ × ℕ)) (levels : List Level) (events : List Event) →
    HasDistinctKeys rows →
    IsFirstClock clock →
    let s = recorded_run buckets rows levels clock events in
    IsShort s →
    length levels + 1 < 2 ^ 63 →
    (h : History) × (place : ℕ → ℕ) × Records h place s
