use Rattle.std.proofs.Common.{◌≡◌, ◌++◌, false, drop, IsTrue}
use Rattle.std.specs.List.{flat_map}
use Rattle.hek_image.specs.Schedules.{row_bytes}
use Rattle.hek_image.proofs.writing.gather_rows.Given as goal

-- with the rows left, the sink would hold what the contract asks
abbrev pub invariant-loop-place : goal.invariant-loop-place
invariant-loop-place g l = record {
  works : g.S.Sink.failed l.sink ≡ false;
  tells : IsTrue (g.S.Sink.tells l.fn.sink) → IsTrue (g.S.Sink.tells l.sink);
  bytes : IsTrue (g.S.Sink.tells l.fn.sink) → (g.S.Sink.holds l.sink ++ l.block.items) ++ flat_map row_bytes (drop l.place l.schedule.rows) ≡ (g.S.Sink.holds l.fn.sink ++ l.fn.block.items) ++ flat_map row_bytes l.schedule.rows;
}
