-- What the command `threads` does with a file.
use Rattle.std.specs.Prelude.{◌≡◌, ℕ, List, length, Option, map}
use Rattle.std.specs.Io.KnownBytes.{Appends}
use Rattle.hek_rules.specs.declared.event.Event.{Event}
use Rattle.hek_rules.specs.declared.reply.Reply.{Reply}
use Rattle.hek_rules.specs.Plan.{Plan}
use Rattle.hek_rules.specs.Run.{transcript}
use Rattle.hek_machine.specs.Observed.{opening_of}
use Rattle.hek_asm.specs.Trace.{trace}
use Rattle.hek_report.specs.declared.fault.HekFault.{HekFault}
use Rattle.hek_report.specs.declared.fault.HekFault.TheVariants as hek
use Rattle.hek_report.specs.declared.schedule_file.ScheduleFile.{ScheduleFile}
use Rattle.hek_report.specs.declared.printing.Printing.{Printing}
use Rattle.hek_report.specs.declared.printing.Printing.TheVariants.{Text}
use Rattle.hek_report.specs.Files.{FileGives, PrintFails}
use Rattle.hek_worker.specs.declared.entry.Entry.{Entry}
use Rattle.hek_worker.specs.declared.entry.ThreadFault.{ThreadFault}
use Rattle.hek_worker.specs.declared.entry.ThreadFault.TheVariants as threads
use Rattle.hek_worker.specs.History.{IsHistory, IsSerialHistory, history_events, replies_in}

-- the replies of a history are those of the rule table
abbrev pub AreTableReplies : Plan → List Entry → Type 0
AreTableReplies plan history = replies_in history ≡ map (λ (x : Event × Reply). x.1) (transcript (opening_of plan 1) (history_events history))

-- a history of a schedule's workers: its events are detect or those of declared transactions, its replies are the
-- table's, and no event is at fault
pub record HasRun (plan : Plan) (history : List Entry) : Type 0 where
  pub formed : IsHistory (length plan.txns) history
  pub replies : AreTableReplies plan history
  pub serial : IsSerialHistory plan history

-- a history of the schedule's workers was written; as text it is its trace, after the bytes that a writer held, if these
-- are known
pub record ShowsHistory (plan : Plan) (printing : Printing) (before after : Option (List ℕ)) : Type 0 where
  pub history : List Entry
  pub run : HasRun plan history
  pub written : printing ≡ Text → Appends before after (trace plan (history_events history) (replies_in history))

-- a history was written for the schedule in a file
pub record RunsInThreads {R : Type 0} (left : R → Option (List ℕ)) (said : ScheduleFile R) (printing : Printing) (before after : Option (List ℕ)) : Type 0 where
  pub plan : Plan
  pub is : FileGives left said plan
  pub shows : ShowsHistory plan printing before after

-- the fault of a run in threads as that of a command
abbrev pub thread_fault : ThreadFault → HekFault
thread_fault threads.NoWorker = hek.NoWorker
thread_fault threads.NoMemory = hek.NoMemory
thread_fault (threads.Mismatch worker) = hek.Mismatch worker

-- why no trace is printed, or not to its end
abbrev pub ThreadsFail : {R : Type 0} → (R → Option (List ℕ)) → ScheduleFile R → HekFault → Type 0
ThreadsFail left said hek.NoWorker = Unit {0}
ThreadsFail left said (hek.Mismatch worker) = Unit {0}
ThreadsFail left said fault = PrintFails left said fault

-- why a run in threads has no outcome
abbrev pub IsRunFault : HekFault → Type 0
IsRunFault hek.NoWorker = Unit {0}
IsRunFault (hek.Mismatch worker) = Unit {0}
IsRunFault hek.NoMemory = Unit {0}
IsRunFault other = ⊥

-- why the outcomes aren't written, or not to their end
abbrev pub IsThreadsStop : HekFault → Type 0
IsThreadsStop hek.CannotWrite = Unit {0}
IsThreadsStop fault = IsRunFault fault
