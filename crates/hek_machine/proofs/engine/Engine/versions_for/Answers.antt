use Rattle.hek_rules.specs.World.{txn_in}
use Rattle.hek_store.specs.Places.{key_versions_left}
use Rattle.hek_machine.proofs.Enough.{all_enough, living_enough, now_by_level}
use Rattle.hek_machine.proofs.engine.Engine.versions_for.Goals as goal

pub returns-in-Snapshot : goal.returns-in-Snapshot
returns-in-Snapshot c = all_enough c.args.self.now c.args.t c.args.key (key_versions_left c.versions_of.result) c.requires.ordered c.versions_of.ensures

pub returns-in-Serializable : goal.returns-in-Serializable
returns-in-Serializable c =
    let m = c.args.self.now in
    living_enough m c.args.t c.args.key (key_versions_left c.living_of.result) c.requires.ordered
    (now_by_level (txn_in m.txns.cores c.args.t).level c.level.result c.level.ensures c.in-Serializable.is)
    c.living_of.ensures
