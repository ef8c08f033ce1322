use Rattle.hek_permute.proofs.Ranges.{IsSoFar}
use Rattle.hek_permute.proofs.whole.play_all.Given as goal

abbrev pub invariant-loop : goal.invariant-loop
invariant-loop g l = IsSoFar l.schedule l.rules l.form l.from l.to l.counter l.moves.items l.order.items l.tally
