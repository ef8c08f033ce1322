use Rattle.std.proofs.Common.{◌≡◌, ◌++◌, replicate}
use Rattle.hek_permute.proofs.moves.push_times.Given as goal

abbrev pub invariant-loop : goal.invariant-loop
invariant-loop l = l.order.items ≡ l.fn.order.items ++ replicate l.counter l.txn
