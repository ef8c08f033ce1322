use Rattle.std.proofs.Common.{rules}
use Rattle.hek_machine.proofs.PairRows.{one_put}
use Rattle.hek_machine.proofs.engine.Engine.many_pairs.Goals as goal

pub loop-v-preserved : goal.loop-v-preserved
loop-v-preserved c = record {
  left = one_put c.args.self.now c.args.vs.now c.loop-v.v-index c.v-item.result c.loop-v.pairs.entries c.insert.new.self.entries
      (search rules) (search rules) (cc c.in_ok-insert.ensures.entries) c.loop-v.invariant.left;
}
