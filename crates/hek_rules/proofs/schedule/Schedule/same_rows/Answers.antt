use Rattle.std.proofs.Common.{◌∙◌, ap}
use Rattle.std.proofs.lemmas.Slice.Eq.{slice_eq-Decides}
use Rattle.hek_rules.specs.Plan.{Plan}
use Rattle.hek_rules.proofs.SameLemmas.{rows_decide, decides_along}
use Rattle.hek_rules.proofs.schedule.Schedule.same_rows.Goals as goal

pub returns : goal.returns
returns c =
    decides_along c.eq.result c.as_slice.result c.as_slice-2.result c.args.self.now.rows c.args.other.now.rows (slice_eq-Decides rows_decide _ _ _ c.eq.ensures)
    (c.as_slice.ensures.entries ∙ ap (λ (p : Plan). p.rows) c.self.view_is) (c.as_slice-2.ensures.entries ∙ ap (λ (p : Plan). p.rows) c.other.view_is)
