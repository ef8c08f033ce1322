-- What the command `debug` prints.
use Rattle.std.specs.Prelude.{◌≡◌, ◌⊎◌, ℕ, zero, suc, ◌+◌, ◌/◌, ◌%◌, nat_lt, if◌then◌else◌, List, [], ◌∷◌, ◌++◌, codes, Option, Some, None, Ok, Err, slice_get, unwrap_or}
use Rattle.std.specs.Fmt.{decimal}
use Rattle.std.specs.Io.KnownBytes.{Appends}
use Rattle.std.specs.Str.{IsUtf8}
use Rattle.hek_rules.specs.declared.reply.Reply.{Reply}
use Rattle.hek_rules.specs.Plan.{Plan, names_of}
use Rattle.hek_rules.specs.World.{World}
use Rattle.hek_rules.specs.Lines.{joined_words}
use Rattle.hek_asm.specs.Trace.{reply_words}
use Rattle.hek_debug.specs.declared.command.Command.{Command}
use Rattle.hek_debug.specs.declared.command.Reason.{Reason}
use Rattle.hek_debug.specs.declared.command.Reason.TheVariants as reason
use Rattle.hek_debug.specs.declared.command.Stop.{Stop}
use Rattle.hek_debug.specs.declared.mark.Mark.{Mark}
use Rattle.hek_debug.specs.declared.mark.Mark.TheVariants.{At, OnEvent, OnTxn, WatchBegin, WatchEnd, WatchWaits}
use Rattle.hek_debug.specs.declared.reading.CommandFault.{CommandFault}
use Rattle.hek_debug.specs.declared.reading.CommandFault.TheVariants as read
use Rattle.hek_debug.specs.Lines.{commands_of}
use Rattle.hek_debug.specs.Marks.{looked_at}
use Rattle.hek_debug.specs.Sessions.{Session, opened, session_after, stop_of, world_at}
use Rattle.hek_report.specs.declared.fault.HekFault.{HekFault}
use Rattle.hek_report.specs.declared.fault.HekFault.TheVariants.{NotText, CommandLine, CannotWrite, NoMemory}
use Rattle.hek_report.specs.declared.schedule_file.ScheduleFile.{ScheduleFile}
use Rattle.hek_report.specs.Files.{FileGives, FileFails}

-- ---- stops

abbrev pub reason_text : Reason → List ℕ
reason_text reason.End = codes " end"
reason_text reason.Stepped = codes " stepped"
reason_text (reason.Break index) = codes " break " ++ decimal index
reason_text reason.Back = codes " back"
reason_text (reason.Set index) = codes " set " ++ decimal index
reason_text reason.Cleared = codes " cleared"

-- the reply to the last step, if there is one
abbrev pub answer_text : Option Reply → List ℕ
answer_text None = []
answer_text (Some r) = codes " -> " ++ joined_words (reply_words r)

-- at NUMBER REASON -> REPLY
abbrev pub stop_line : Stop → List ℕ
stop_line s = codes "at " ++ (decimal s.at ++ (reason_text s.reason ++ (answer_text s.last ++ 10 ∷ [])))

-- ---- watches

-- an upper-case hexadecimal digit
abbrev pub hex_digit : ℕ → ℕ
hex_digit n = if nat_lt n 10 then 48 + n else 55 + n

-- the last digits of a number in hexadecimal, as many as asked for
abbrev pub hex_text : ℕ → ℕ → List ℕ
hex_text zero n = []
hex_text (suc k) n = hex_text k (n / 16) ++ hex_digit (n % 16) ∷ []

-- a word that a watch looks at
unfoldable pub seen_text : Option ℕ → List ℕ
seen_text None = codes "none"
seen_text (Some n) = hex_text 16 n

-- a counter that a watch looks at
abbrev pub count_text : Option ℕ → List ℕ
count_text None = codes "none"
count_text (Some n) = decimal n

-- the name of a transaction, if it is declared
abbrev pub name_text : Plan → ℕ → List ℕ
name_text p zero = []
name_text p (suc i) = unwrap_or (slice_get (names_of p) i) []

-- INDEX begin VERSION WORD, INDEX end VERSION WORD or INDEX waits NAME NUMBER; a breakpoint has no line
abbrev pub watch_line : Plan → World → ℕ → Mark → List ℕ
watch_line p w index (At n) = []
watch_line p w index (OnEvent kind) = []
watch_line p w index (OnTxn t) = []
watch_line p w index (WatchBegin v) = decimal index ++ (codes " begin " ++ (decimal v ++ 32 ∷ (seen_text (looked_at (WatchBegin v) w) ++ 10 ∷ [])))
watch_line p w index (WatchEnd v) = decimal index ++ (codes " end " ++ (decimal v ++ 32 ∷ (seen_text (looked_at (WatchEnd v) w) ++ 10 ∷ [])))
watch_line p w index (WatchWaits t) = decimal index ++ (codes " waits " ++ (name_text p t ++ 32 ∷ (count_text (looked_at (WatchWaits t) w) ++ 10 ∷ [])))

-- the lines of the marks; the first mark has this index
abbrev pub watch_lines : Plan → World → ℕ → List Mark → List ℕ
watch_lines p w index [] = []
watch_lines p w index (m ∷ ms) = watch_line p w index m ++ watch_lines p w (index + 1) ms

-- ---- commands

-- a stop, and what each watch looks at there
abbrev pub told_text : Session → Stop → List ℕ
told_text s stop = stop_line stop ++ watch_lines s.plan (world_at s.plan s.at) 1 s.marks

-- what the debugger writes after these commands
abbrev pub session_text : Session → List Command → List ℕ
session_text s [] = []
session_text s (c ∷ cs) = told_text (session_after s c) (stop_of s c) ++ session_text (session_after s c) cs

-- the answers to the commands in a text, over the schedule in a file, were written after the bytes that a writer held
pub record Debugs {R : Type 0} (left : R → Option (List ℕ)) (said : ScheduleFile R) (text : List ℕ) (before after : Option (List ℕ)) : Type 0 where
  pub plan : Plan
  pub is : FileGives left said plan
  pub commands : List Command
  pub read : commands_of plan text ≡ Ok commands
  pub written : Appends before after (session_text (opened plan) commands)

-- the fault of a command text as that of the command
abbrev pub command_fault : CommandFault → HekFault
command_fault (read.Line number) = CommandLine number
command_fault read.NoMemory = NoMemory

-- why a text has no commands: a fault that names a line names the first one at fault
abbrev pub CommandTextFails : Plan → List ℕ → HekFault → Type 0
CommandTextFails plan text (CommandLine number) = commands_of plan text ≡ Err number
CommandTextFails plan text NoMemory = Unit {0}
CommandTextFails plan text other = ⊥

-- why `hek debug` fails: bytes that aren't a text come before a fault of the file, which comes before a fault of the
-- commands
abbrev pub DebugFails : {R : Type 0} → (R → Option (List ℕ)) → ScheduleFile R → List ℕ → HekFault → Type 0
DebugFails left said text CannotWrite = Unit {0}
DebugFails left said text NoMemory = Unit {0}
DebugFails left said text fault =
    (¬ (IsUtf8 text) × (fault ≡ NotText)) ⊎ (IsUtf8 text × (FileFails left said fault ⊎ ((plan : Plan) × FileGives left said plan × CommandTextFails plan text fault)))
