use Rattle.std.proofs.Common.{◌≡◌, ◌++◌, map, false, drop, IsTrue}
use Rattle.hek_rules.specs.Lines.{spaced}
use Rattle.hek_asm.specs.Trace.{pair_word}
use Rattle.hek_asm.proofs.writing.write_pairs.Given as goal

-- with the pairs left, the sink would hold what the contract asks
abbrev pub invariant-loop-pair : goal.invariant-loop-pair
invariant-loop-pair g l = record {
  works : g.S.Sink.failed l.sink ≡ false;
  tells : IsTrue (g.S.Sink.tells l.fn.sink) → IsTrue (g.S.Sink.tells l.sink);
  bytes : IsTrue (g.S.Sink.tells l.fn.sink) → g.S.Sink.holds l.sink ++ spaced (map pair_word (drop l.pair-index l.pairs)) ≡ g.S.Sink.holds l.fn.sink ++ spaced (map pair_word l.pairs);
}
