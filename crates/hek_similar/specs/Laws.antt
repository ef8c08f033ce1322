-- The laws of similar worlds, each in a sentence.
use Rattle.std.specs.List.{All}
use Rattle.std.specs.Prelude.{ℕ, ◌≡◌, ◌<◌, ◌≤◌, ◌+◌, ◌↔◌, ◌++◌, List, [], length, map}
use Rattle.hek_rules.specs.declared.event.Event.{Event}
use Rattle.hek_rules.specs.declared.reply.Reply.{Reply}
use Rattle.hek_rules.specs.declared.serial.Verdict.TheVariants.{Serial}
use Rattle.hek_rules.specs.Recorded.{Recorded}
use Rattle.hek_rules.specs.Faults.{put_all, IsVerdict}
use Rattle.hek_rules.specs.World.{World}
use Rattle.hek_rules.specs.Checks.{clock_end}
use Rattle.hek_rules.specs.Run.{next, reply, run, transcript}
use Rattle.hek_rules.specs.Shown.{committed_rows}
use Rattle.hek_laws.specs.Sound.{Sound}
use Rattle.hek_laws.specs.Runs.{IsPlaced, IsReachable}
use Rattle.hek_similar.specs.Similar.{Similar, timeless_reply, timeless_step}
use Rattle.hek_similar.specs.Forms.{form}
use Rattle.hek_similar.specs.Places.{Renumbering, IsRenumbering, ScansGroup, renumbered, renumbered_reply, renumbered_step}
use Rattle.hek_similar.specs.Holdings.{Regrouped}
use Rattle.hek_similar.specs.Alike.{Alike, bare_reply, bare_step}
use Rattle.hek_similar.specs.Canonical.{canonical_form}
use Rattle.hek_similar.specs.Verdicts.{judged_part, ended_in, AreRightInTurn, as_serializable, RecordsRun, JudgedAlike, ToldAlike}

-- each event is answered alike in similar worlds whose clocks are not full, and leads to similar worlds
abbrev pub SimilarWorldsAnswerAlike : Type 0
SimilarWorldsAnswerAlike =
    (w x : World) (e : Event) →
    Similar w x →
    Sound w →
    Sound x →
    w.clock < clock_end →
    x.clock < clock_end →
    (timeless_reply (reply w e) ≡ timeless_reply (reply x e)) × Similar (next w e) (next x e)

-- events that are no more than either clock has left are answered alike, one after another, and lead to similar worlds
abbrev pub SimilarRunsAnswerAlike : Type 0
SimilarRunsAnswerAlike =
    (w x : World) (events : List Event) →
    Similar w x →
    IsReachable w →
    IsReachable x →
    All (IsPlaced w.buckets) events →
    w.clock + length events ≤ clock_end →
    x.clock + length events ≤ clock_end →
    (map timeless_step (transcript w events) ≡ map timeless_step (transcript x events)) × Similar (run w events) (run x events)

abbrev pub SimilarWorldsHaveSameRows : Type 0
SimilarWorldsHaveSameRows = (w x : World) → Similar w x → committed_rows w ≡ committed_rows x

-- ---- similarity

abbrev pub SimilarToItself : Type 0
SimilarToItself = (w : World) → Similar w w

abbrev pub SimilarBothWays : Type 0
SimilarBothWays = (w x : World) → Similar w x → Similar x w

abbrev pub SimilarInTurn : Type 0
SimilarInTurn = (w x y : World) → Similar w x → Similar x y → Similar w y

-- sound worlds are similar exactly if their forms are equal
abbrev pub FormsDecide : Type 0
FormsDecide = (w x : World) → Sound w → Sound x → (form w ≡ form x) ↔ Similar w x

-- ---- renumbered worlds

-- each event has the same reply in a renumbered world, but for places, and leads to the next world renumbered, if the
-- keys of a bucket that it scans are of one group
abbrev pub RenumberedWorldsAnswerAlike : Type 0
RenumberedWorldsAnswerAlike =
    (r : Renumbering) (w : World) (e : Event) →
    IsRenumbering r w →
    ScansGroup r.group w.buckets e →
    (reply (renumbered r w) e ≡ renumbered_reply r (reply w e)) × (next (renumbered r w) e ≡ renumbered r (next w e)) × IsRenumbering r (next w e)

-- so have events one after another
abbrev pub RenumberedRunsAnswerAlike : Type 0
RenumberedRunsAnswerAlike =
    (r : Renumbering) (w : World) (events : List Event) →
    IsRenumbering r w →
    All (ScansGroup r.group w.buckets) events →
    (transcript (renumbered r w) events ≡ map (renumbered_step r) (transcript w events)) × (run (renumbered r w) events ≡ renumbered r (run w events)) × IsRenumbering r (run w events)

abbrev pub RenumberedWorldsHaveSameRows : Type 0
RenumberedWorldsHaveSameRows = (r : Renumbering) (w : World) → IsRenumbering r w → committed_rows (renumbered r w) ≡ committed_rows w

abbrev pub RenumberedWorldsAreSound : Type 0
RenumberedWorldsAreSound = (r : Renumbering) (w : World) → IsRenumbering r w → Sound w → Sound (renumbered r w)

-- ---- regrouped worlds

-- each event has the same reply in regrouped worlds, and leads to regrouped worlds
abbrev pub RegroupedWorldsAnswerTheSame : Type 0
RegroupedWorldsAnswerTheSame = (w x : World) (e : Event) → Regrouped w x → (reply w e ≡ reply x e) × Regrouped (next w e) (next x e)

-- so have events one after another
abbrev pub RegroupedRunsAnswerTheSame : Type 0
RegroupedRunsAnswerTheSame =
    (w x : World) (events : List Event) →
    Regrouped w x →
    (transcript w events ≡ transcript x events) × Regrouped (run w events) (run x events)

abbrev pub RegroupedWorldsHaveSameRows : Type 0
RegroupedWorldsHaveSameRows = (w x : World) → Regrouped w x → committed_rows w ≡ committed_rows x

abbrev pub RegroupedWorldsAreSound : Type 0
RegroupedWorldsAreSound = (w x : World) → Regrouped w x → Sound w → Sound x

-- ---- alike worlds

-- each event is answered alike, but for times and places, in alike worlds whose clocks are not full, and leads to alike
-- worlds
abbrev pub AlikeWorldsAnswerAlike : Type 0
AlikeWorldsAnswerAlike =
    (group : ℕ → ℕ) (w x : World) (e : Event) →
    Alike group w x →
    Sound w →
    Sound x →
    ScansGroup group w.buckets e →
    w.clock < clock_end →
    x.clock < clock_end →
    (bare_reply (reply w e) ≡ bare_reply (reply x e)) × Alike group (next w e) (next x e)

-- so are events one after another, no more than either clock has left
abbrev pub AlikeRunsAnswerAlike : Type 0
AlikeRunsAnswerAlike =
    (group : ℕ → ℕ) (w x : World) (events : List Event) →
    Alike group w x →
    IsReachable w →
    IsReachable x →
    All (IsPlaced w.buckets) events →
    All (ScansGroup group w.buckets) events →
    w.clock + length events ≤ clock_end →
    x.clock + length events ≤ clock_end →
    (map bare_step (transcript w events) ≡ map bare_step (transcript x events)) × Alike group (run w events) (run x events)

abbrev pub AlikeWorldsHaveSameRows : Type 0
AlikeWorldsHaveSameRows = (group : ℕ → ℕ) (w x : World) → Alike group w x → committed_rows w ≡ committed_rows x

abbrev pub AlikeToItself : Type 0
AlikeToItself = (group : ℕ → ℕ) (w : World) → Alike group w w

abbrev pub AlikeBothWays : Type 0
AlikeBothWays = (group : ℕ → ℕ) (w x : World) → Alike group w x → Alike group x w

abbrev pub AlikeInTurn : Type 0
AlikeInTurn = (group : ℕ → ℕ) (w x y : World) → Alike group w x → Alike group x y → Alike group w y

-- sound worlds are alike exactly if the forms of their canonical worlds are equal
abbrev pub CanonicalFormsDecide : Type 0
CanonicalFormsDecide = (group : ℕ → ℕ) (w x : World) → Sound w → Sound x → (canonical_form group w ≡ canonical_form group x) ↔ Alike group w x

-- ---- verdicts

-- With all its transactions taken as serializable, a run is serial exactly if the committed ones, each alone on the rows
-- that those before it leave, in the order in which they drew their end times, would get the replies that they got.
abbrev pub SerialIsRightInTurn : Type 0
SerialIsRightInTurn =
    (s : Recorded) →
    RecordsRun s →
    IsVerdict (as_serializable s) Serial ↔ AreRightInTurn s.buckets (λ t. judged_part t s.history) (put_all s.rows []) (ended_in s.history)

-- runs over the same rows that are judged alike have one verdict
abbrev pub JudgedAlikeHaveOneVerdict : Type 0
JudgedAlikeHaveOneVerdict =
    (s u : Recorded) →
    RecordsRun s →
    RecordsRun u →
    s.buckets ≡ u.buckets →
    s.rows ≡ u.rows →
    JudgedAlike s.history u.history →
    IsVerdict (as_serializable s) Serial ↔ IsVerdict (as_serializable u) Serial

-- histories that are told alike are judged alike
abbrev pub ToldAlikeAreJudgedAlike : Type 0
ToldAlikeAreJudgedAlike = (h g : List (Event × Reply)) → ToldAlike h g → JudgedAlike h g

-- histories that are told alike and go on with the same, but for times, are told alike
abbrev pub ToldAlikeGoOn : Type 0
ToldAlikeGoOn =
    (h g more others : List (Event × Reply)) →
    ToldAlike h g →
    map timeless_step more ≡ map timeless_step others →
    ToldAlike (h ++ more) (g ++ others)

-- histories that are told alike and go on with the same events, from alike worlds, are told alike
abbrev pub ToldAlikeGoOnInAlikeWorlds : Type 0
ToldAlikeGoOnInAlikeWorlds =
    (group : ℕ → ℕ) (w x : World) (h g : List (Event × Reply)) (events : List Event) →
    Alike group w x →
    IsReachable w →
    IsReachable x →
    All (IsPlaced w.buckets) events →
    All (ScansGroup group w.buckets) events →
    w.clock + length events ≤ clock_end →
    x.clock + length events ≤ clock_end →
    ToldAlike h g →
    ToldAlike (h ++ transcript w events) (g ++ transcript x events)
