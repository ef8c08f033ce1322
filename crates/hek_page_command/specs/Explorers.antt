-- What an explorer is of: the plays of orders; and when there is none.
use Rattle.std.specs.Prelude.{◌≡◌, ◌⊎◌, ℕ, List, Option, None, length, map, reverse}
use Rattle.hek_rules.specs.Plan.{Plan}
use Rattle.hek_rules.specs.declared.event.Event.{Event}
use Rattle.hek_worker.specs.declared.entry.Entry.{Entry}
use Rattle.hek_permute.specs.declared.moves.Form.{Form}
use Rattle.hek_permute.specs.Moves.{Work}
use Rattle.hek_permute.specs.Plays.{IsPlay}
use Rattle.hek_report.specs.declared.fault.HekFault.{HekFault}
use Rattle.hek_report.specs.declared.fault.HekFault.TheVariants.{Mismatch}
use Rattle.hek_report.specs.declared.schedule_file.ScheduleFile.{ScheduleFile}
use Rattle.hek_report.specs.Files.{FileGives, PrintFails, IsStop}
use Rattle.hek_permute.specs.Leveled.{leveled}
use Rattle.hek_page_command.specs.declared.step_text.StepText.{StepText}
use Rattle.hek_page_command.specs.Pages.{WritesPage}
use Rattle.hek_page_command.specs.Tellings.{IsStory}

-- the events are those of a play of an order
abbrev pub ArePlayed : Form → List Work → List ℕ → List Event → Type 0
ArePlayed form works order events =
    (history : List Entry) × IsPlay form works (reverse order) history × (events ≡ map (λ entry. entry.event) history)

-- the events are those of a play of the order, and the steps are theirs, after the first `done` ones
pub record IsOrderStory (p : Plan) (form : Form) (works : List Work) (order : List ℕ) (done : ℕ) (events : List Event) (steps : List StepText) : Type 0 where
  pub played : ArePlayed form works order events
  pub story : IsStory (leveled p None events) (record { done = done; last = length events }) steps

-- a page and status 0, or nothing and status 1
abbrev pub IsExplored : ℕ → Option (List ℕ) → Option (List ℕ) → Type 0
IsExplored status before after = ((status ≡ 0) × WritesPage before after) ⊎ ((status ≡ 1) × (after ≡ before))

-- an explorer, or nothing, was written for the schedule in a file
pub record Explores {R : Type 0} (left : R → Option (List ℕ)) (said : ScheduleFile R) (status : ℕ) (before after : Option (List ℕ)) : Type 0 where
  pub plan : Plan
  pub is : FileGives left said plan
  pub answer : IsExplored status before after

-- why the making of an explorer stops
abbrev pub IsExploreStop : HekFault → Type 0
IsExploreStop (Mismatch worker) = Unit {0}
IsExploreStop fault = IsStop fault

-- why an explorer isn't written, or not to its end
abbrev pub ExploreFails : {R : Type 0} → (R → Option (List ℕ)) → ScheduleFile R → HekFault → Type 0
ExploreFails left said (Mismatch worker) = Unit {0}
ExploreFails left said fault = PrintFails left said fault
