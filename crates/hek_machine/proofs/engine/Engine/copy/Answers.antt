use Rattle.std.proofs.Common.{refl}
use Rattle.hek_machine.proofs.Loads.{copied-shows}
use Rattle.hek_machine.proofs.engine.Engine.copy.Goals as goal

pub returns : goal.returns
returns c =
    let stored = c.in_ok-copy.ensures in
    copied-shows c.args.self.now _ (record {
      clock = refl;
      store_buckets = stored.buckets;
      versions = stored.versions;
      txns = c.in_ok-copy-2.ensures;
      buckets = c.in_ok-copy-3.ensures;
    })
