use Rattle.std.proofs.Common.{◌≡◌, ◌+◌, length}
use Rattle.hek_machine.specs.Stands.{StandsFor}
use Rattle.hek_moves.specs.Steps.{world_at}
use Rattle.hek_page_command.specs.Tellings.{AreTold}
use Rattle.hek_page_command.proofs.story.show_steps.Given as goal

-- the machine stands for the world after the steps so far, which the story has
abbrev pub invariant-loop-place : goal.invariant-loop-place
invariant-loop-place l = record {
  stands : StandsFor l.machine (world_at l.schedule l.place);
  told : AreTold l.schedule l.fn.range.done l.story.steps.items;
  count : l.fn.range.done + length l.story.steps.items ≡ l.place;
}
