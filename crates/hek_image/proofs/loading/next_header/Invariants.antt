use Rattle.std.proofs.Common.{◌≡◌, ◌≤◌, ◌-◌, ◌++◌, take, false, length, IsTrue}
use Rattle.hek_image.proofs.loading.next_header.Given as goal

abbrev pub invariant-loop-schedule : goal.invariant-loop-schedule
invariant-loop-schedule g l = record {
  works : g.S.Source.failed l.source ≡ false;
  tells : IsTrue (g.S.Source.tells l.fn.source) → IsTrue (g.S.Source.tells l.source);
  bytes : IsTrue (g.S.Source.tells l.fn.source) → g.S.Source.left l.fn.source ≡ take l.held l.buffer ++ g.S.Source.left l.source;
  few : l.held ≤ 22;
  room : length l.buffer ≡ 32;
}

abbrev pub decreases-loop-schedule : goal.decreases-loop-schedule
decreases-loop-schedule g l = 22 - l.held
