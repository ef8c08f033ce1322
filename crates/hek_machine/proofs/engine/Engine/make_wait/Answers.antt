use Rattle.hek_machine.proofs.EffectRules.{able_waiter}
use Rattle.hek_machine.proofs.EffectShows.{applies_wait}
use Rattle.hek_machine.proofs.engine.Engine.make_wait.Goals as goal

pub impose_wait-requires-clause-waiter : goal.impose_wait-requires-clause-waiter
impose_wait-requires-clause-waiter c = able_waiter c.args.self.now c.args.t c.args.u c.requires.able

pub returns-clause-shows : goal.returns-clause-shows
returns-clause-shows c = applies_wait c.args.self.now c.args.t c.args.u c.impose_wait.new.txns c.impose_wait.ensures.txns c.impose_wait.ensures.items
