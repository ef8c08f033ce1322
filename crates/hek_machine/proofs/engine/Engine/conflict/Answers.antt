use Rattle.std.proofs.Common.{refl, ap, ◌∙◌}
use Rattle.hek_rules.specs.declared.event.Cause.TheVariants.{Conflict}
use Rattle.hek_rules.specs.Walk.{Refuse, Allow}
use Rattle.hek_machine.specs.Judgements.{verdict}
use Rattle.hek_machine.proofs.KeyRules.{conflict_rule}
use Rattle.hek_machine.proofs.engine.Engine.conflict.Goals as goal

pub walk-requires-clause-versions : goal.walk-requires-clause-versions
walk-requires-clause-versions c = c.requires.versions.below

pub returns-in-Some-clause-rule : goal.returns-in-Some-clause-rule
returns-in-Some-clause-rule c =
    conflict_rule c.args.self.now c.abort.new.self c.args.t c.args.key c.bucket_of-bucket.result c.args.vs.now (Refuse c.in-Some.cause) c.in-Some.cause c.abort.result c.bucket_of-bucket.ensures c.requires.versions
    (λ w s. c.in_ok-refused.ensures w s ∙ ap (λ o. verdict o c.walk.new.effects.items) c.in-Some.is) (λ w. refl) c.abort.ensures

pub returns-in-None-clause-rule : goal.returns-in-None-clause-rule
returns-in-None-clause-rule c =
    conflict_rule c.args.self.now c.abort-in-None.new.self c.args.t c.args.key c.bucket_of-bucket.result c.args.vs.now (Allow c.walk.new.effects.items) Conflict c.abort-in-None.result c.bucket_of-bucket.ensures c.requires.versions
    (λ w s. c.in_ok-refused.ensures w s ∙ ap (λ o. verdict o c.walk.new.effects.items) c.in-None.is) (λ w. refl) c.abort-in-None.ensures
