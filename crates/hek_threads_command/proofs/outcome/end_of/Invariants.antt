use Rattle.std.proofs.Common.{◌≡◌, length}
use Rattle.hek_threads_command.specs.Outcomes.{ending_reply}
use Rattle.hek_threads_command.proofs.outcome.end_of.Given as goal

abbrev pub invariant-loop-reply : goal.invariant-loop-reply
invariant-loop-reply l = ending_reply l.part ≡ ending_reply l.rest

abbrev pub decreases-loop-reply : goal.decreases-loop-reply
decreases-loop-reply l = length l.rest
