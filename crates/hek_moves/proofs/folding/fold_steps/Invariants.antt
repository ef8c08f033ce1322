use Rattle.std.proofs.Common.{◌≡◌, length}
use Rattle.hek_rules.specs.Shown.{committed_rows}
use Rattle.hek_machine.specs.Stands.{StandsFor}
use Rattle.hek_moves.specs.Moves.{IsJudged}
use Rattle.hek_moves.specs.Steps.{world_at}
use Rattle.hek_moves.proofs.folding.fold_steps.Given as goal

-- the machine stands for the world after the steps so far, each of which has its place; what is committed there is noted, and the invariants are judged on it
abbrev pub invariant-loop-place : goal.invariant-loop-place
invariant-loop-place l = record {
  stands : StandsFor l.machine (world_at l.schedule l.place);
  rows : l.folding.moves.latest.rows ≡ committed_rows (world_at l.schedule l.place);
  judged : IsJudged l.always l.folding.moves.latest;
  count : length l.folding.of_step.items ≡ l.place;
}
