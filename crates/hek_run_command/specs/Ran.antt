-- What the command `run` does with a file.
use Rattle.std.specs.Prelude.{ℕ, List, ◌++◌, Option, Some, None, map, take}
use Rattle.std.specs.Io.KnownBytes.{Appends}
use Rattle.hek_rules.specs.declared.event.Event.{Event}
use Rattle.hek_rules.specs.declared.reply.Reply.{Reply}
use Rattle.hek_rules.specs.Plan.{Plan}
use Rattle.hek_rules.specs.World.{World}
use Rattle.hek_rules.specs.Run.{run, transcript}
use Rattle.hek_asm.specs.Trace.{trace}
use Rattle.hek_machine.specs.Observed.{opening_of}
use Rattle.hek_machine.specs.Steps.{HasNoFaults}
use Rattle.hek_report.specs.declared.schedule_file.ScheduleFile.{ScheduleFile}
use Rattle.hek_report.specs.Files.{FileGives}
use Rattle.hek_step_report.specs.StateText.{state_text}

-- the replies that the rule table gives to these steps, from the opening world of a schedule on
abbrev pub replies_to : Plan → List Event → List Reply
replies_to p es = map (λ (x : Event × Reply). x.1) (transcript (opening_of p 1) es)

-- the trace of these steps
abbrev pub trace_of : Plan → List Event → List ℕ
trace_of p es = trace p es (replies_to p es)

abbrev pub trace_of_steps : Plan → List ℕ
trace_of_steps p = trace_of p p.steps

-- the trace of all steps was written after the bytes that a writer held, if these are known; and no event of a declared
-- transaction in it is at fault: each committed transaction gets what its own level promises, by end time
pub record Runs {R : Type 0} (left : R → Option (List ℕ)) (said : ScheduleFile R) (before after : Option (List ℕ)) : Type 0 where
  pub plan : Plan
  pub is : FileGives left said plan
  pub written : Appends before after (trace_of_steps plan)
  pub serial : HasNoFaults plan plan.steps (replies_to plan plan.steps)

-- the first steps, as many as the limit or all of them
abbrev pub first_events : Option ℕ → List Event → List Event
first_events None es = es
first_events (Some n) es = take n es

-- the world after these steps
abbrev pub world_after : Plan → List Event → World
world_after p es = run (opening_of p 1) es

-- the trace of a schedule's first steps, and the state after them
abbrev pub trace_with_state : Plan → List Event → List ℕ
trace_with_state p es = trace_of p es ++ state_text p (world_after p es)

-- the trace of a schedule's first steps, and the state after them, were written after the bytes that a writer held
abbrev pub ShowsState : Plan → Option ℕ → Option (List ℕ) → Option (List ℕ) → Type 0
ShowsState plan limit before after = Appends before after (trace_with_state plan (first_events limit plan.steps))

-- the trace and the state were written for the schedule in a file
pub record RunsTo {R : Type 0} (left : R → Option (List ℕ)) (said : ScheduleFile R) (limit : Option ℕ) (before after : Option (List ℕ)) : Type 0 where
  pub plan : Plan
  pub is : FileGives left said plan
  pub shows : ShowsState plan limit before after
