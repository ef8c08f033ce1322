use Rattle.std.proofs.Common.{sym}
use Rattle.hek_machine.proofs.ReleaseRules.{row_of_release_waiter}
use Rattle.hek_machine.proofs.engine.Engine.release_waiter.Goals as goal

pub returns-in-Some : goal.returns-in-Some
returns-in-Some c =
    let e = c.in-Some.ensures in
    row_of_release_waiter c.args.self.now c.args.t c.in-Some.u c.release_waiter.new.txns c.requires.known c.requires.none c.requires.free (sym e.result) e.released e.items
