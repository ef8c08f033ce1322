use Rattle.hek_machine.proofs.StampRules.{row_of_stamp}
use Rattle.hek_machine.proofs.engine.Engine.stamp.Goals as goal

pub returns : goal.returns
returns c =
    let e = c.stamp_next.ensures in
    row_of_stamp c.args.self.now c.args.t c.stamp_next.new.store c.stamp_next.new.txns c.stamp_next.result c.requires.known
    (record { store_is = e.store; txns_is = e.txns; writes = e.writes; reply_is = e.reply })
