use Rattle.std.proofs.Common.{sym, ap, subst, ◌∙◌, length, IfOk}
use Rattle.std.specs.Prelude.{OnErr}
use Rattle.hek_rules.specs.World.{World}
use Rattle.hek_laws.specs.Runs.{IsPlaced}
use Rattle.hek_machine.specs.declared.engine.Engine.{Engine}
use Rattle.hek_machine.specs.Stands.{StandsFor}
use Rattle.hek_machine.specs.Steps.{IsSmall, IsMachineStep}
use Rattle.hek_machine.proofs.SmallReplies.{small_replies}
use Rattle.hek_machine.specs.Observed.{StandsAs}
use Rattle.hek_machine.proofs.RunRules.{ordered_after, buckets_after, steps_of_rows, stands_on_err}
use Rattle.hek_machine.proofs.machine.Machine.step.Goals as goal

pub invariant_of-self : goal.invariant_of-self
invariant_of-self c =
    ordered_after _ c.self.inside.engine c.step.new.self c.step.result c.self.invariant
    (subst (λ (m : Engine). IsPlaced (length m.buckets) c.args.event) (sym c.self.view_is) c.requires) c.step.ensures.rule c.step.ensures.still

pub returns-clause-buckets : goal.returns-clause-buckets
returns-clause-buckets c =
    buckets_after _ c.self.inside.engine c.step.new.self c.step.result c.self.invariant c.step.ensures.rule c.step.ensures.still ∙ ap (λ (m : Engine). length m.buckets) c.self.view_is

pub returns-clause-small : goal.returns-clause-small
returns-clause-small c =
    subst (λ (m : Engine). IfOk c.step.result (λ r. (w : World) → StandsFor m w → IsSmall w r)) c.self.view_is (small_replies _ c.self.inside.engine c.step.new.self c.step.result c.step.ensures.rule)

pub returns-clause-step : goal.returns-clause-step
returns-clause-step c =
    subst (λ (m : Engine). IfOk c.step.result (IsMachineStep c.args.event m c.step.new.self)) c.self.view_is
    (steps_of_rows _ c.self.inside.engine c.step.new.self c.step.result
    (subst (λ (m : Engine). IsPlaced (length m.buckets) c.args.event) (sym c.self.view_is) c.requires) c.step.ensures.rule)

pub returns-clause-still : goal.returns-clause-still
returns-clause-still c =
    subst (λ (m : Engine). OnErr c.step.result (StandsAs m c.step.new.self)) c.self.view_is (stands_on_err c.self.inside.engine c.step.new.self c.step.result c.step.ensures.still)
