use Rattle.std.proofs.Common.{drop}
use Rattle.hek_machine.proofs.PairRows.{Left}
use Rattle.hek_machine.proofs.engine.Engine.many_pairs.Given as goal

abbrev pub invariant-loop-v : goal.invariant-loop-v
invariant-loop-v l = record {
  left : Left l.self l.vs l.pairs.entries (drop l.v-index l.vs);
}
