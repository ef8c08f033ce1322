-- What `asm` and `dis` do with files.
use Rattle.std.specs.Prelude.{◌≡◌, ℕ, Bool, List, ◌++◌, Option, Ok, IsTrue}
use Rattle.std.specs.Io.KnownBytes.{Appends}
use Rattle.hek_rules.specs.Plan.{Plan}
use Rattle.hek_asm.specs.Text.{schedule_of}
use Rattle.hek_asm.specs.Canonical.{canonical_text}
use Rattle.hek_image.specs.Schedules.{image}
use Rattle.hek_report.specs.declared.fault.HekFault.{HekFault}
use Rattle.hek_report.specs.declared.fault.HekFault.TheVariants.{CannotWrite}
use Rattle.hek_report.specs.declared.schedule_file.ScheduleFile.{ScheduleFile}
use Rattle.hek_report.specs.Files.{FileGives, ScheduleTextFails}

-- the image of the schedule that a text describes was put after the bytes that a sink held, if these are known
pub record Assembles {S : Type 0} (holds : S → List ℕ) (tells : S → Bool) (text : List ℕ) (before after : S) : Type 0 where
  pub plan : Plan
  pub is : schedule_of text ≡ Ok plan
  pub written : IsTrue (tells before) → holds after ≡ holds before ++ image plan

-- why no image is written, or not to its end; only a sink that has failed can't be written
abbrev pub AsmFails : Bool → List ℕ → HekFault → Type 0
AsmFails failed text CannotWrite = IsTrue failed
AsmFails failed text fault = ScheduleTextFails text fault

-- the canonical text of the schedule in a file was written after the bytes that a writer held, if these are known
pub record Disassembles {R : Type 0} (left : R → Option (List ℕ)) (said : ScheduleFile R) (before after : Option (List ℕ)) : Type 0 where
  pub plan : Plan
  pub is : FileGives left said plan
  pub written : Appends before after (canonical_text plan)
