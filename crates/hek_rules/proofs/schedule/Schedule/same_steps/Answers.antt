use Rattle.std.proofs.Common.{ap}
use Rattle.std.proofs.lemmas.Slice.Eq.{slice_eq-Decides}
use Rattle.hek_rules.specs.Plan.{Plan}
use Rattle.hek_rules.proofs.SameLemmas.{events_decide, decides_along}
use Rattle.hek_rules.proofs.schedule.Schedule.same_steps.Goals as goal

pub returns : goal.returns
returns c =
    decides_along c.eq.result c.self.inside.steps.items c.other.inside.steps.items c.args.self.now.steps c.args.other.now.steps (slice_eq-Decides events_decide _ _ _ c.eq.ensures)
    (ap (λ (p : Plan). p.steps) c.self.view_is) (ap (λ (p : Plan). p.steps) c.other.view_is)
