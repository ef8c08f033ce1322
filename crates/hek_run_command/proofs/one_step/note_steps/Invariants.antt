use Rattle.std.proofs.Common.{◌≡◌, length}
use Rattle.hek_run_command.proofs.one_step.note_steps.Given as goal

-- the number of buckets stays
abbrev pub invariant-loop-place : goal.invariant-loop-place
invariant-loop-place l = length l.machine.buckets ≡ length l.fn.machine.buckets
