use Rattle.std.proofs.Common.{◌≡◌, ◌++◌, false, drop, IsTrue}
use Rattle.hek_asm.specs.Pieces.{pieces_bytes}
use Rattle.hek_asm.proofs.writing.write_pieces.Given as goal

-- with the parts left, the sink would hold what the contract asks
abbrev pub invariant-loop-piece : goal.invariant-loop-piece
invariant-loop-piece g l = record {
  works : g.S.Sink.failed l.sink ≡ false;
  tells : IsTrue (g.S.Sink.tells l.fn.sink) → IsTrue (g.S.Sink.tells l.sink);
  bytes : IsTrue (g.S.Sink.tells l.fn.sink) → g.S.Sink.holds l.sink ++ pieces_bytes (drop l.piece-index l.pieces) ≡ g.S.Sink.holds l.fn.sink ++ pieces_bytes l.pieces;
}
