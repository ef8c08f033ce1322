use Rattle.std.proofs.Common.{◌≡◌, ◌++◌, length, take}
use Rattle.hek_rules.specs.Run.{run}
use Rattle.hek_machine.specs.Stands.{StandsFor}
use Rattle.hek_machine.specs.Observed.{opening_of}
use Rattle.hek_run_command.specs.Ran.{trace_of}
use Rattle.hek_report.specs.Sent.{Passes}
use Rattle.hek_run_command.proofs.Stepping.{to_come}
use Rattle.hek_run_command.proofs.run.write_steps.Given as goal

-- the machine represents the world after the steps so far; the bytes written, the lines gathered and those to come are
-- the trace
abbrev pub invariant-loop-place : goal.invariant-loop-place
invariant-loop-place g l = record {
  stands : StandsFor l.machine (run (opening_of l.schedule 1) (take l.place l.steps));
  buckets : length l.machine.buckets ≡ l.schedule.buckets;
  bytes : Passes (g.W.Write.contents l.fn.out) (trace_of l.schedule l.steps) (g.W.Write.contents l.out) (l.lines.items ++ to_come l.schedule (opening_of l.schedule 1) l.steps l.place);
}
