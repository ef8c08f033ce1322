use Rattle.hek_similar.proofs.Verdicts.{right-in_turn}
use Rattle.hek_similar.proofs.serial_runs_are_right_in_turn.Goals as goal

pub returns : goal.returns
returns c = right-in_turn
