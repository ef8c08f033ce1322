use Rattle.hek_explore.proofs.Rows.{IsWalked}
use Rattle.hek_explore.proofs.walk.explore_moves.Given as goal

abbrev pub invariant-loop : goal.invariant-loop
invariant-loop g l = IsWalked l.schedule l.form l.moves l.most l.counter l.layer
