use Rattle.std.proofs.Common.{◌≡◌, ◌+◌, ◌-◌, ◌*◌, ◌≤◌, false, IsTrue}
use Rattle.hek_image.specs.Taking.{item_at, item_size, ItemsFit, HasGrown}
use Rattle.hek_image.proofs.Takings.{Ahead}
use Rattle.hek_image.proofs.reading.next_items.Given as goal

abbrev pub invariant-loop : goal.invariant-loop
invariant-loop g l = record {
  works : g.S.Source.failed l.source ≡ false;
  tells : IsTrue (g.S.Source.tells l.fn.source) → IsTrue (g.S.Source.tells l.source);
  so_far : IsTrue (g.S.Source.tells l.fn.source) → Ahead (item_at l.item) l.count l.counter l.fn.schedule l.fn.at l.schedule l.next (item_size l.item) (g.S.Source.left l.fn.source) (g.S.Source.left l.source);
  fits : ItemsFit l.item (l.count - l.counter) l.schedule;
  grown : HasGrown l.item l.counter l.fn.schedule l.schedule;
  at : l.next ≤ l.fn.at + l.counter * 32;
}
