use Rattle.std.proofs.Common.{rules, ◌≡◌, subst, sym}
use Rattle.hek_rules.specs.Listing.{put}
use Rattle.hek_laws.specs.Rows.{AreRising}
use Rattle.hek_laws.proofs.Lists.Rising.{rising-put}
use Rattle.hek_store.specs.Stored.{version_at}
use Rattle.hek_machine.proofs.PairRows.{one_row}
use Rattle.hek_machine.proofs.engine.Engine.few_pairs.Goals as goal

pub loop-v-preserved : goal.loop-v-preserved
loop-v-preserved c =
    let x = version_at c.args.self.now.store c.v-item.result in
    let grown : c.put.new.pairs.items ≡ put x.key x.value c.loop-v.pairs.items = search (rules, c.in_ok-put.ensures) in
    record {
      rising = subst AreRising (sym grown) (rising-put c.loop-v.pairs.items x.key x.value c.loop-v.invariant.rising);
      left = one_row c.args.self.now c.args.vs.now c.loop-v.v-index c.v-item.result c.loop-v.pairs.items c.put.new.pairs.items
          (search rules) (search rules) grown c.loop-v.invariant.left;
    }
