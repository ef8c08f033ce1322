-- What the functions for C answer.
use Rattle.std.specs.Prelude.{ℕ, ◌≡◌, ◌≤◌, List, length, take, Ok, Err, Some}
use Rattle.hek_rules.specs.Plan.{Plan}
use Rattle.hek_asm.specs.declared.fault.AsmKind.{AsmKind}
use Rattle.hek_asm.specs.Text.{schedule_of}
use Rattle.hek_report.specs.declared.fault.HekFault.{HekFault}
use Rattle.hek_report.specs.declared.fault.HekFault.TheVariants.{Line, NotText, CannotWrite}
use Rattle.hek_report.specs.Files.{ScheduleTextFails}
use Rattle.hek_run_command.specs.Ran.{trace_of_steps, trace_with_state, first_events}

abbrev pub status_of : HekFault → ℕ
status_of (Line line kind) = 1
status_of NotText = 2
status_of fault = 3

abbrev pub line_of : HekFault → ℕ
line_of (Line line kind) = line
line_of fault = 0

-- the trace of the schedule that a text describes
abbrev pub IsTraceOfText : List ℕ → List ℕ → Type 0
IsTraceOfText text made = (plan : Plan) × (schedule_of text ≡ Ok plan) × (made ≡ trace_of_steps plan)

-- the trace of its first steps, and the state after them
abbrev pub IsStateOfText : ℕ → List ℕ → List ℕ → Type 0
IsStateOfText steps text made = (plan : Plan) × (schedule_of text ≡ Ok plan) × (made ≡ trace_with_state plan (first_events (Some steps) plan.steps))

-- the text is at the beginning of the room, whose length is as it was
abbrev pub IsIn : List ℕ → List ℕ → List ℕ → Type 0
IsIn made before after = (length after ≡ length before) × (length made ≤ length before) × (take (length made) after ≡ made)

-- this line of the text is the first at fault
abbrev pub HasFaultAt : ℕ → List ℕ → Type 0
HasFaultAt line text = (kind : AsmKind) × (schedule_of text ≡ Err (line, kind))

-- why nothing is made of a text
abbrev pub MakingFails : List ℕ → HekFault → Type 0
MakingFails text CannotWrite = Unit {0}
MakingFails text fault = ScheduleTextFails text fault
