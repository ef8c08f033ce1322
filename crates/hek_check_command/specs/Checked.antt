-- What `check` does with a file and a trace.
use Rattle.std.specs.Prelude.{◌≡◌, ◌⊎◌, ℕ, ◌-◌, Bool, true, false, List, [], ◌∷◌, ◌++◌, codes, Option, Some, None, slice_get}
use Rattle.std.specs.Str.{IsUtf8}
use Rattle.std.specs.Io.KnownBytes.{Appends}
use Rattle.std.specs.Fmt.{decimal}
use Rattle.hek_rules.specs.declared.event.Level.{Level}
use Rattle.hek_rules.specs.declared.reply.Reply.{Reply}
use Rattle.hek_rules.specs.declared.serial.Verdict.{Verdict}
use Rattle.hek_rules.specs.declared.serial.Verdict.TheVariants.{Serial, NotSerial}
use Rattle.hek_rules.specs.Faults.{IsVerdict}
use Rattle.hek_rules.specs.Lines.{joined_words}
use Rattle.hek_rules.specs.Plan.{Plan}
use Rattle.hek_rules.specs.Recorded.{Recorded}
use Rattle.hek_asm.specs.Reading.{IsTraceOf, StopsAt}
use Rattle.hek_asm.specs.Trace.{reply_words}
use Rattle.hek_serial.specs.Explained.{reply_at}
use Rattle.hek_serial.specs.Leveled.{at_level}
use Rattle.hek_report.specs.declared.fault.HekFault.{HekFault}
use Rattle.hek_report.specs.declared.fault.HekFault.TheVariants.{TraceLine, NotText, CannotWrite, NoMemory}
use Rattle.hek_report.specs.declared.schedule_file.ScheduleFile.{ScheduleFile}
use Rattle.hek_report.specs.Files.{FileGives, FileFails}

-- why a text isn't the trace of a transcript over a schedule
abbrev pub TraceTextFails : Plan → List ℕ → HekFault → Type 0
TraceTextFails plan text (TraceLine number) = StopsAt plan number text
TraceTextFails plan text NoMemory = Unit {0}
TraceTextFails plan text other = ⊥

-- the words of a verdict
abbrev pub verdict_words : Verdict → List ℕ
verdict_words Serial = codes "serial"
verdict_words (NotSerial number) = codes "not serial " ++ decimal number

abbrev pub verdict_text : Verdict → List ℕ
verdict_text Serial = codes "serial" ++ 10 ∷ []
verdict_text (NotSerial number) = codes "not serial " ++ decimal number ++ 10 ∷ []

abbrev pub verdict_status : Verdict → ℕ
verdict_status Serial = 0
verdict_status (NotSerial number) = 1

abbrev pub reply_text : Option Reply → List ℕ
reply_text None = codes "none"
reply_text (Some r) = joined_words (reply_words r)

-- a line with the reply that the event with number n would have had in the serial order
abbrev pub serial_line : Recorded → ℕ → List ℕ
serial_line recorded n = codes "serial reply: " ++ reply_text (reply_at recorded (n - 1) (slice_get recorded.history (n - 1))) ++ 10 ∷ []

-- the line with the serial reply, if it is asked for and an event is at fault
abbrev pub why_text : Bool → Recorded → Verdict → List ℕ
why_text false recorded verdict = []
why_text true recorded Serial = []
why_text true recorded (NotSerial number) = serial_line recorded number

-- a transcript with each transaction's own level, or with one level for all
abbrev pub judged_as : Option Level → Recorded → Recorded
judged_as None recorded = recorded
judged_as (Some level) recorded = at_level level recorded

-- the right verdict on a transcript was written after the bytes that a writer held, with the serial reply if it is
-- asked for; the verdict gives the exit status
pub record Judges (recorded : Recorded) (why : Bool) (before after : Option (List ℕ)) (status : ℕ) : Type 0 where
  pub verdict : Verdict
  pub right : IsVerdict recorded verdict
  pub written : Appends before after (verdict_text verdict ++ why_text why recorded verdict)
  pub answer : status ≡ verdict_status verdict

-- the right verdict at a level, on the transcript whose trace a text is, was written after the bytes that a writer
-- held, with the serial reply if it is asked for; the verdict gives the exit status
pub record Checks {R : Type 0} (left : R → Option (List ℕ)) (said : ScheduleFile R) (text : List ℕ) (level : Option Level) (why : Bool) (before after : Option (List ℕ)) (status : ℕ) : Type 0 where
  pub plan : Plan
  pub is : FileGives left said plan
  pub recorded : Recorded
  pub read : IsTraceOf plan recorded text
  pub judges : Judges (judged_as level recorded) why before after status

abbrev pub CheckFails : {R : Type 0} → (R → Option (List ℕ)) → ScheduleFile R → List ℕ → HekFault → Type 0
CheckFails left said text CannotWrite = Unit {0}
CheckFails left said text NoMemory = Unit {0}
CheckFails left said text fault =
    (¬ (IsUtf8 text) × (fault ≡ NotText)) ⊎ (IsUtf8 text × (FileFails left said fault ⊎ ((plan : Plan) × FileGives left said plan × TraceTextFails plan text fault)))
