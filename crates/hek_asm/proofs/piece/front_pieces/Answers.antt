use Rattle.std.proofs.Common.{arith, ◌≡◌}
use Rattle.std.proofs.lemmas.Grind.{common_steps}
use Rattle.hek_asm.proofs.LineLemmas.{spaced_step}
use Rattle.hek_asm.proofs.piece.front_pieces.Goals as goal

pub returns : goal.returns
returns c = grind (arith, common_steps, spaced_step c.args.schedule.now c.args.event.now)
