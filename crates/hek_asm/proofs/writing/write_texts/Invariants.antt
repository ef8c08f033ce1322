use Rattle.std.proofs.Common.{◌≡◌, ◌++◌, false, drop, IsTrue}
use Rattle.std.specs.List.{flat_map}
use Rattle.hek_asm.proofs.writing.write_texts.Given as goal

-- with the texts left, the sink would hold what the contract asks
abbrev pub invariant-loop-text : goal.invariant-loop-text
invariant-loop-text g l = record {
  works : g.S.Sink.failed l.sink ≡ false;
  tells : IsTrue (g.S.Sink.tells l.fn.sink) → IsTrue (g.S.Sink.tells l.sink);
  bytes : IsTrue (g.S.Sink.tells l.fn.sink) → g.S.Sink.holds l.sink ++ flat_map (λ text. text.now) (drop l.text-index l.texts) ≡ g.S.Sink.holds l.fn.sink ++ flat_map (λ text. text.now) l.texts;
}
