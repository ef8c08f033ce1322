use Rattle.std.proofs.Common.{◌≡◌, length}
use Rattle.hek_history_command.proofs.run_log.run_steps.Given as goal

-- no bucket is made or lost
abbrev pub invariant-loop-place : goal.invariant-loop-place
invariant-loop-place l = length l.machine.buckets ≡ l.schedule.buckets
