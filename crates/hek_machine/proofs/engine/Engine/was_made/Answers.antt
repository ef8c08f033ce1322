use Rattle.hek_machine.proofs.CommittedRows.{maker_declared}
use Rattle.hek_machine.proofs.engine.Engine.was_made.Goals as goal

pub state-requires : goal.state-requires
state-requires c = maker_declared c.args.self.now c.args.v c.in-Some.u c.requires.ordered (cc)
