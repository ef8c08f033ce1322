use Rattle.std.proofs.Common.{◌≡◌, length}
use Rattle.hek_run_command.proofs.steps.put_steps.Given as goal

-- the number of buckets and the schedule stay
abbrev pub invariant-loop-place : goal.invariant-loop-place
invariant-loop-place l = record {
  buckets : length l.machine.buckets ≡ l.fn.telling.schedule.now.buckets;
  schedule : l.telling.schedule ≡ l.fn.telling.schedule;
}
