use Rattle.std.proofs.Common.{◌≡◌, length, take}
use Rattle.hek_rules.specs.Run.{run}
use Rattle.hek_machine.specs.Stands.{StandsFor}
use Rattle.hek_machine.specs.Observed.{opening_of}
use Rattle.hek_machine.proofs.RunRules.{replies_of}
use Rattle.hek_machine.proofs.runs.run_at.Given as goal

-- the machine stands for the world after the events so far, and their replies have been collected
abbrev pub invariant-loop-event : goal.invariant-loop-event
invariant-loop-event l = record {
  stands : StandsFor l.machine (run (opening_of l.schedule l.fn.clock) (take l.event-index l.events));
  replies : l.replies.items ≡ replies_of (opening_of l.schedule l.fn.clock) (take l.event-index l.events);
  buckets : length l.machine.buckets ≡ l.schedule.buckets;
}
