use Rattle.std.proofs.Common.{◌≡◌, ◌++◌, ◌+◌, false, drop, IsTrue}
use Rattle.hek_asm.specs.Trace.{trace_from, trace}
use Rattle.hek_asm.proofs.trace.write_trace.Given as goal

-- with the lines left, the sink would hold what the contract asks
abbrev pub invariant-loop-place : goal.invariant-loop-place
invariant-loop-place g l = record {
  works : g.S.Sink.failed l.sink ≡ false;
  tells : IsTrue (g.S.Sink.tells l.fn.sink) → IsTrue (g.S.Sink.tells l.sink);
  bytes : IsTrue (g.S.Sink.tells l.fn.sink) → g.S.Sink.holds l.sink ++ trace_from l.schedule (l.place + 1) (drop l.place l.events) (drop l.place l.replies) ≡ g.S.Sink.holds l.fn.sink ++ trace l.schedule l.events l.replies;
}
