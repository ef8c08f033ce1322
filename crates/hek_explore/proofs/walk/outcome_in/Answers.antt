use Rattle.std.proofs.Common.{subst}
use Rattle.hek_rules.specs.Plan.{Plan}
use Rattle.hek_permute.specs.Outcomes.{IsOutcomeOf}
use Rattle.hek_explore.proofs.Classes.{class-ends}
use Rattle.hek_explore.proofs.walk.outcome_in.Goals as goal

pub returns : goal.returns
returns c =
    class-ends c.args.schedule.now c.in_ok-book.book.plan c.args.form c.args.moves.now c.args.class.now c.in_ok-book._places.items c.in_ok-book.book.history
    c.into_parts-machine.result.1.items c.into_parts-machine.result.0 c.in_ok-outcome_of.field-0 c.requires c.in_ok-book.ensures c.into_parts-machine.ensures.replays
    c.into_parts-machine.ensures.history
    (subst (λ (p : Plan). IsOutcomeOf p c.into_parts-machine.result.1.items c.in_ok-outcome_of.field-0) c.schedule.ensures c.in_ok-outcome_of.ensures)
