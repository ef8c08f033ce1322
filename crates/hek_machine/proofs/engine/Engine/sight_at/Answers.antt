use Rattle.std.proofs.Common.{◌<◌, sym, ◌∙◌, subst, ap}
use Rattle.hek_rules.specs.Words.{infinity}
use Rattle.hek_visible.specs.Seen.{version_seen}
use Rattle.hek_machine.proofs.WalkRules.{sight_time}
use Rattle.hek_machine.proofs.engine.Engine.sight_at.Goals as goal

pub is_outside-requires-clause-time : goal.is_outside-requires-clause-time
is_outside-requires-clause-time c = subst (λ n. n < infinity) (sym c.requires.time) (sight_time c.args.self.now c.args.t c.requires.ordered)

pub returns-then-is_outside : goal.returns-then-is_outside
returns-then-is_outside c =
    sym (ap (λ n. version_seen c.args.self.now.store c.args.self.now.txns c.args.t n c.args.v) (sym c.requires.time) ∙ c.is_outside.ensures c.if-is_outside.true c.args.t)
