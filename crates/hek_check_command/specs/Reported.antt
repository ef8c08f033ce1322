-- What `check` with `--summary`, `--all` or `--json` answers, and what its output begins with.
use Rattle.std.specs.Prelude.{◌≡◌, ℕ, Bool, true, false, List, [], ◌∷◌, ◌++◌, Option}
use Rattle.std.specs.Io.KnownBytes.{Appends}
use Rattle.hek_rules.specs.declared.event.Level.{Level}
use Rattle.hek_rules.specs.declared.serial.Verdict.{Verdict}
use Rattle.hek_rules.specs.Faults.{IsVerdict}
use Rattle.hek_rules.specs.Plan.{Plan}
use Rattle.hek_rules.specs.Recorded.{Recorded}
use Rattle.hek_asm.specs.Reading.{IsTraceOf}
use Rattle.hek_report.specs.declared.printing.Printing.{Printing}
use Rattle.hek_report.specs.declared.printing.Printing.TheVariants.{Text, Json}
use Rattle.hek_report.specs.declared.schedule_file.ScheduleFile.{ScheduleFile}
use Rattle.hek_report.specs.Files.{FileGives}
use Rattle.hek_check_command.specs.Checked.{judged_as, verdict_words, verdict_status}

-- what ends the words of a verdict: a colon before how much is judged, otherwise the end of the line
abbrev pub end_of_words : Bool → ℕ
end_of_words true = 58
end_of_words false = 10

-- as text the output begins with the words of the verdict, and what ends them; of objects of JSON nothing is said
abbrev pub front_of : Printing → Bool → Verdict → List ℕ
front_of Text summary verdict = verdict_words verdict ++ end_of_words summary ∷ []
front_of Json summary verdict = []

-- what was written after the bytes that a writer held begins with a front
pub record Begins (front : List ℕ) (before after : Option (List ℕ)) : Type 0 where
  pub rest : List ℕ
  pub written : Appends before after (front ++ rest)

-- the right verdict on a transcript gives the exit status and what the output begins with
pub record IsReportedOn (recorded : Recorded) (printing : Printing) (summary : Bool) (before after : Option (List ℕ)) (status : ℕ) : Type 0 where
  pub verdict : Verdict
  pub right : IsVerdict recorded verdict
  pub begins : Begins (front_of printing summary verdict) before after
  pub answer : status ≡ verdict_status verdict

-- the right verdict at a level, on the transcript whose trace a text is, gives the exit status and what the output begins with
pub record Reports {R : Type 0} (left : R → Option (List ℕ)) (said : ScheduleFile R) (text : List ℕ) (level : Option Level) (printing : Printing) (summary : Bool) (before after : Option (List ℕ)) (status : ℕ) : Type 0 where
  pub plan : Plan
  pub is : FileGives left said plan
  pub recorded : Recorded
  pub read : IsTraceOf plan recorded text
  pub judged : IsReportedOn (judged_as level recorded) printing summary before after status
