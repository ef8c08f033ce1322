-- What commands do with files.
use Rattle.std.specs.Prelude.{◌≡◌, ℕ, List, Option, Ok, Err, IfSome}
use Rattle.std.specs.Str.{IsUtf8}
use Rattle.hek_rules.specs.Plan.{Plan}
use Rattle.hek_asm.specs.Text.{schedule_of}
use Rattle.hek_image.specs.Gives.{LoadFails}
use Rattle.hek_image.specs.Loading.{loading}
use Rattle.hek_report.specs.declared.fault.HekFault.{HekFault}
use Rattle.hek_report.specs.declared.fault.HekFault.TheVariants.{Line, Image, NotText, CannotRead, CannotWrite, NoMemory}
use Rattle.hek_report.specs.declared.schedule_file.ScheduleFile.{ScheduleFile}
use Rattle.hek_report.specs.declared.schedule_file.ScheduleFile.TheVariants as file

-- why the file with this name isn't read
abbrev pub ReadFails : List ℕ → HekFault → Type 0
ReadFails name (CannotRead file) = file.now ≡ name
ReadFails name NoMemory = Unit {0}
ReadFails name other = ⊥

-- why bytes aren't a schedule's text; a fault of a text is the first fault of these bytes
abbrev pub ScheduleTextFails : List ℕ → HekFault → Type 0
ScheduleTextFails text NotText = ¬ (IsUtf8 text)
ScheduleTextFails text (Line number kind) = schedule_of text ≡ Err (number, kind)
ScheduleTextFails text NoMemory = Unit {0}
ScheduleTextFails text other = ⊥

-- the schedule whose image a reader has left, if its bytes are known
abbrev pub ImageGives : Option (List ℕ) → Plan → Type 0
ImageGives left plan = IfSome left (λ bytes. loading bytes ≡ Ok plan)

-- why the bytes that a reader has left aren't an image
abbrev pub ImageFails : Option (List ℕ) → HekFault → Type 0
ImageFails left (Image fault) = IfSome left (λ bytes. LoadFails fault (loading bytes))
ImageFails left NoMemory = Unit {0}
ImageFails left other = ⊥

-- the schedule in a file: in a text, or in an image
abbrev pub FileGives : {R : Type 0} → (R → Option (List ℕ)) → ScheduleFile R → Plan → Type 0
FileGives left (file.Text text) plan = schedule_of text.items ≡ Ok plan
FileGives left (file.Image reader) plan = ImageGives (left reader) plan

abbrev pub FileFails : {R : Type 0} → (R → Option (List ℕ)) → ScheduleFile R → HekFault → Type 0
FileFails left (file.Text text) fault = ScheduleTextFails text.items fault
FileFails left (file.Image reader) fault = ImageFails (left reader) fault

-- why a text about the schedule in a file isn't written, or not to its end
abbrev pub PrintFails : {R : Type 0} → (R → Option (List ℕ)) → ScheduleFile R → HekFault → Type 0
PrintFails left said CannotWrite = Unit {0}
PrintFails left said fault = FileFails left said fault

-- why writing stops
abbrev pub IsStop : HekFault → Type 0
IsStop NoMemory = Unit {0}
IsStop CannotWrite = Unit {0}
IsStop other = ⊥
