use Rattle.std.proofs.Common.{rules}
use Rattle.hek_machine.proofs.PhaseRules.{row_of_commit}
use Rattle.hek_machine.proofs.engine.Engine.commit.Goals as goal

pub returns-in-Ok : goal.returns-in-Ok
returns-in-Ok c =
    let e = c.in-Ok.ensures in
    row_of_commit c.args.self.now c.args.t c.commit.new.txns c.requires.known (search rules) e.committed e.emptied
