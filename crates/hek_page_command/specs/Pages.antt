-- Which steps a page has, and when a run has no page.
use Rattle.std.specs.Prelude.{◌≡◌, ◌≤◌, ◌<◌, ◌⊎◌, ℕ, ◌-◌, min, List, length, Option, unwrap_or}
use Rattle.std.specs.Io.KnownBytes.{Appends}
use Rattle.hek_rules.specs.Plan.{Plan}
use Rattle.hek_report.specs.declared.schedule_file.ScheduleFile.{ScheduleFile}
use Rattle.hek_report.specs.Files.{FileGives}
use Rattle.hek_page_command.specs.declared.page.Part.{Part}

-- the number of the last step that is asked for, of a run of this many steps
abbrev pub last_step : Part → ℕ → ℕ
last_step part steps = min (unwrap_or part.to steps) steps

-- how many steps are done before the page: those before the first that is asked for
abbrev pub done_of : Part → ℕ → ℕ
done_of part steps = min (unwrap_or part.from 1 - 1) (last_step part steps)

-- how many steps the page has
abbrev pub count_of : Part → ℕ → ℕ
count_of part steps = last_step part steps - done_of part steps

-- some bytes were written after those that a writer held, if these are known
pub record WritesPage (before after : Option (List ℕ)) : Type 0 where
  pub page : List ℕ
  pub written : Appends before after page

-- the answer to a part of this many steps: a page and status 0 for at most 2,000, otherwise nothing and status 1
abbrev pub IsAnswer : ℕ → ℕ → Option (List ℕ) → Option (List ℕ) → Type 0
IsAnswer steps status before after =
    ((steps ≤ 2000) × (status ≡ 0) × WritesPage before after) ⊎ ((2000 < steps) × (status ≡ 1) × (after ≡ before))

-- a page, or nothing, was written for the schedule in a file
pub record Pages {R : Type 0} (left : R → Option (List ℕ)) (said : ScheduleFile R) (part : Part) (status : ℕ) (before after : Option (List ℕ)) : Type 0 where
  pub plan : Plan
  pub is : FileGives left said plan
  pub answer : IsAnswer (count_of part (length plan.steps)) status before after
