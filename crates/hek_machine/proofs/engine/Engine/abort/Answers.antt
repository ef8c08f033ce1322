use Rattle.hek_machine.proofs.PhaseRules.{row_of_abort}
use Rattle.hek_machine.proofs.engine.Engine.abort.Goals as goal

pub returns : goal.returns
returns c =
    let e = c.abort.ensures in
    row_of_abort c.args.self.now c.args.t _ _ c.abort.new.txns c.requires.known e.txns e.emptied
