use Rattle.std.proofs.Common.{◌≡◌, ◌+◌, ◌≤◌, ◌++◌, length}
use Rattle.hek_rules.specs.Plan.{levels_of}
use Rattle.hek_asm.specs.Reading.{AreEntries, history_trace}
use Rattle.hek_asm.proofs.reading.read_trace.Given as goal

abbrev pub invariant-loop-rest : goal.invariant-loop-rest
invariant-loop-rest l = record {
  schedule : l.transcript ≡ record { buckets = l.schedule.buckets; rows = l.schedule.rows; levels = levels_of l.schedule; history = l.transcript.history };
  entries : AreEntries l.schedule l.transcript.history;
  trace : l.text ≡ history_trace l.schedule l.transcript.history ++ l.rest;
  count : l.number ≡ length l.transcript.history;
  short : l.number + length l.rest ≤ length l.text;
}

abbrev pub decreases-loop-rest : goal.decreases-loop-rest
decreases-loop-rest l = length l.rest
