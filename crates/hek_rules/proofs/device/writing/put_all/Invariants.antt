use Rattle.std.proofs.Common.{◌≡◌, ◌++◌, false, length, IsTrue}
use Rattle.hek_rules.proofs.device.writing.put_all.Given as goal

-- the sink with the rest of the bytes would hold all of them
abbrev pub invariant-loop-rest : goal.invariant-loop-rest
invariant-loop-rest g l = record {
  works : g.S.Sink.failed l.sink ≡ false;
  tells : IsTrue (g.S.Sink.tells l.fn.sink) → IsTrue (g.S.Sink.tells l.sink);
  bytes : IsTrue (g.S.Sink.tells l.fn.sink) → g.S.Sink.holds l.sink ++ l.rest ≡ g.S.Sink.holds l.fn.sink ++ l.bytes;
}

abbrev pub decreases-loop-rest : goal.decreases-loop-rest
decreases-loop-rest g l = length l.rest
