use Rattle.std.proofs.Common.{rules}
use Rattle.hek_machine.proofs.EffectRules.{able_depended}
use Rattle.hek_machine.proofs.EffectShows.{applies_dependence, keeps_dependence, depends_already}
use Rattle.hek_machine.proofs.engine.Engine.depend_on.Goals as goal

pub returns-then-not-has_dependent-clause-shows : goal.returns-then-not-has_dependent-clause-shows
returns-then-not-has_dependent-clause-shows c =
    applies_dependence c.args.self.now c.args.t c.args.u c.depend.new.txns c.depend.ensures.txns c.depend.ensures.items

pub returns-then-not-has_dependent-clause-room : goal.returns-then-not-has_dependent-clause-room
returns-then-not-has_dependent-clause-room c =
    keeps_dependence c.args.self.now c.args.t c.args.u c.depend.new.txns (able_depended c.args.self.now c.args.t c.args.u c.requires.able) (search rules) c.depend.ensures.txns c.depend.ensures.items

pub returns-else-not-has_dependent-clause-shows : goal.returns-else-not-has_dependent-clause-shows
returns-else-not-has_dependent-clause-shows c = depends_already c.args.self.now c.args.t c.args.u (search rules)
