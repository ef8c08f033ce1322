use Rattle.std.proofs.Common.{◌≡◌, ◌≤◌, ◌-◌, ◌++◌, take, false, length, IsTrue}
use Rattle.hek_image.specs.Taking.{item_size}
use Rattle.hek_image.proofs.reading.next_item.Given as goal

abbrev pub invariant-loop-after : goal.invariant-loop-after
invariant-loop-after g l = record {
  works : g.S.Source.failed l.source ≡ false;
  tells : IsTrue (g.S.Source.tells l.fn.source) → IsTrue (g.S.Source.tells l.source);
  bytes : IsTrue (g.S.Source.tells l.fn.source) → g.S.Source.left l.fn.source ≡ take l.held l.buffer ++ g.S.Source.left l.source;
  few : l.held ≤ item_size l.item;
  room : length l.buffer ≡ 32;
  same : l.schedule ≡ l.fn.schedule;
}

abbrev pub decreases-loop-after : goal.decreases-loop-after
decreases-loop-after g l = item_size l.item - l.held
