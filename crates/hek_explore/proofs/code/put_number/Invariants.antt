use Rattle.hek_explore.proofs.Codes.{IsWritten}
use Rattle.hek_explore.proofs.code.put_number.Given as goal

abbrev pub invariant-loop : goal.invariant-loop
invariant-loop l = IsWritten l.fn.code.items l.value l.code.items l.counter l.rest
