use Rattle.std.proofs.Common.{◌≡◌, ◌++◌, drop, map}
use Rattle.std.specs.List.{flat_map}
use Rattle.hek_rules.specs.Lines.{line_text}
use Rattle.hek_asm.specs.Canonical.{step_words}
use Rattle.hek_asm.proofs.schedule_text.put_steps.Given as goal

-- with the lines left, the list would hold what the contract asks
abbrev pub invariant-loop-event : goal.invariant-loop-event
invariant-loop-event l = l.out.items ++ flat_map line_text (map (step_words l.schedule) (drop l.event-index l.schedule.steps)) ≡ l.fn.out.items ++ flat_map line_text (map (step_words l.schedule) l.schedule.steps)
