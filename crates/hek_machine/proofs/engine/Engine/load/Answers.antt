use Rattle.std.proofs.Common.{refl}
use Rattle.hek_machine.proofs.Loads.{loaded-stands}
use Rattle.hek_machine.proofs.engine.Engine.load.Goals as goal

pub returns-clause-stands : goal.returns-clause-stands
returns-clause-stands c =
    let stored = c.in_ok-load.ensures in
    loaded-stands _ c.args.schedule.now c.args.clock stored.plan c.requires (record {
      clock = refl;
      store_buckets = stored.buckets;
      versions = stored.versions;
      txns = c.in_ok-load-2.ensures;
      buckets = c.in_ok-load-3.ensures;
    })
