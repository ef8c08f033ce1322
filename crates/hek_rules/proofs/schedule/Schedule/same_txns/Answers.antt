use Rattle.std.proofs.Common.{◌∙◌, ap}
use Rattle.std.specs.String.{string_bytes}
use Rattle.hek_rules.specs.Plan.{Plan}
use Rattle.hek_rules.proofs.PlanLemmas.{texts}
use Rattle.hek_rules.proofs.SameLemmas.{texts_decide, decides_along}
use Rattle.hek_rules.proofs.schedule.Schedule.same_txns.Goals as goal

pub returns : goal.returns
returns c =
    decides_along c.eq.result (texts string_bytes c.as_slice.result) (texts string_bytes c.as_slice-2.result) c.args.self.now.txns c.args.other.now.txns
    (texts_decide string_bytes c.as_slice.result c.as_slice-2.result c.eq.result c.eq.ensures)
    (ap (texts string_bytes) c.as_slice.ensures.entries ∙ ap (λ (p : Plan). p.txns) c.self.view_is) (ap (texts string_bytes) c.as_slice-2.ensures.entries ∙ ap (λ (p : Plan). p.txns) c.other.view_is)
