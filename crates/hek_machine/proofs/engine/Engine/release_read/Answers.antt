use Rattle.hek_machine.proofs.ReleaseRules.{row_of_release_read}
use Rattle.hek_machine.proofs.engine.Engine.release_read.Goals as goal

pub returns : goal.returns
returns c =
    let e = c.release_read-waiter.ensures in
    rw e.store (rw e.answer (row_of_release_read c.args.self.now c.args.t c.args.v c.release_read-waiter.new.txns c.requires.known c.requires.first e.txns e.reads))
