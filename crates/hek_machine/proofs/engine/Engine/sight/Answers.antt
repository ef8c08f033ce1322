use Rattle.std.proofs.Common.{◌<◌, sym, subst}
use Rattle.hek_rules.specs.Words.{infinity}
use Rattle.hek_machine.proofs.WalkRules.{sight_time}
use Rattle.hek_machine.proofs.engine.Engine.sight.Goals as goal

pub see-requires-clause-time : goal.see-requires-clause-time
see-requires-clause-time c = subst (λ n. n < infinity) (sym c.requires.time) (sight_time c.args.self.now c.args.t c.requires.ordered)
