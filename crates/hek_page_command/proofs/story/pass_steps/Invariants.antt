use Rattle.hek_machine.specs.Stands.{StandsFor}
use Rattle.hek_moves.specs.Steps.{world_at}
use Rattle.hek_page_command.proofs.story.pass_steps.Given as goal

-- the machine stands for the world after the steps so far
abbrev pub invariant-loop-place : goal.invariant-loop-place
invariant-loop-place l = StandsFor l.machine (world_at l.schedule l.place)
