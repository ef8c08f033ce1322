use Rattle.std.proofs.Common.{◌≡◌, ◌+◌, ◌*◌, ◌≤◌, false, IsTrue}
use Rattle.hek_image.specs.Loading.{txn_at}
use Rattle.hek_image.specs.Taking.{HasMore}
use Rattle.hek_image.proofs.Takings.{Ahead}
use Rattle.hek_image.proofs.reading.next_txns.Given as goal

abbrev pub invariant-loop : goal.invariant-loop
invariant-loop g l = record {
  works : g.S.Source.failed l.source ≡ false;
  tells : IsTrue (g.S.Source.tells l.fn.source) → IsTrue (g.S.Source.tells l.source);
  so_far : IsTrue (g.S.Source.tells l.fn.source) → Ahead (txn_at l.version) l.count l.counter l.fn.schedule l.fn.at l.schedule l.next 34 (g.S.Source.left l.fn.source) (g.S.Source.left l.source);
  grown : HasMore 0 l.counter 0 l.fn.schedule l.schedule;
  at : l.next ≤ l.fn.at + l.counter * 34;
}
