use Rattle.std.proofs.Common.{drop}
use Rattle.hek_laws.specs.Rows.{AreRising}
use Rattle.hek_machine.proofs.PairRows.{Left}
use Rattle.hek_machine.proofs.engine.Engine.few_pairs.Given as goal

abbrev pub invariant-loop-v : goal.invariant-loop-v
invariant-loop-v l = record {
  rising : AreRising l.pairs.items;
  left : Left l.self l.vs l.pairs.items (drop l.v-index l.vs);
}
