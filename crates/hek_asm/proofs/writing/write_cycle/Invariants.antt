use Rattle.std.proofs.Common.{◌≡◌, ◌++◌, ◌∷◌, codes, map, false, drop, IsTrue}
use Rattle.std.specs.Fmt.{decimal}
use Rattle.hek_rules.specs.Lines.{spaced}
use Rattle.hek_asm.proofs.writing.write_cycle.Given as goal

-- with the members left, the sink would hold what the contract asks
abbrev pub invariant-loop-member : goal.invariant-loop-member
invariant-loop-member g l = record {
  works : g.S.Sink.failed l.sink ≡ false;
  tells : IsTrue (g.S.Sink.tells l.fn.sink) → IsTrue (g.S.Sink.tells l.sink);
  bytes : IsTrue (g.S.Sink.tells l.fn.sink) → g.S.Sink.holds l.sink ++ spaced (map decimal (drop l.member-index l.members)) ≡ g.S.Sink.holds l.fn.sink ++ spaced (codes "cycle" ∷ map decimal l.members);
}
