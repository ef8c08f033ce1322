use Rattle.std.proofs.Common.{◌≡◌, ◌++◌, false, drop, IsTrue}
use Rattle.std.specs.List.{flat_map}
use Rattle.hek_image.specs.Schedules.{step_bytes}
use Rattle.hek_image.proofs.writing.gather_steps.Given as goal

-- with the steps left, the sink would hold what the contract asks
abbrev pub invariant-loop-event : goal.invariant-loop-event
invariant-loop-event g l = record {
  works : g.S.Sink.failed l.sink ≡ false;
  tells : IsTrue (g.S.Sink.tells l.fn.sink) → IsTrue (g.S.Sink.tells l.sink);
  bytes : IsTrue (g.S.Sink.tells l.fn.sink) → (g.S.Sink.holds l.sink ++ l.block.items) ++ flat_map step_bytes (drop l.event-index l.schedule.steps) ≡ (g.S.Sink.holds l.fn.sink ++ l.fn.block.items) ++ flat_map step_bytes l.schedule.steps;
}
