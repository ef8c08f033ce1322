use Rattle.std.proofs.Common.{List, subst}
use Rattle.std.proofs.lemmas.Result.{IfOk-weaker}
use Rattle.hek_rules.specs.Run.{run}
use Rattle.hek_why.specs.declared.change.Change.{Change}
use Rattle.hek_why.specs.Changes.{AreChanges}
use Rattle.hek_why.specs.Leads.{Leads, LeadOn}
use Rattle.hek_why.proofs.LeadsLaw.{leads_run}
use Rattle.hek_why.proofs.difference.changes.Goals as goal

pub returns-clause-lead : goal.returns-clause-lead
returns-clause-lead c =
    let before = c.args.before.now in
    let after = c.args.after.now in
    IfOk-weaker c.differences.result (λ list. AreChanges before after list.items) (λ list. LeadOn before after list.items)
    (λ list same w es from to. subst (λ (cs : List Change). Leads w (run w es) cs) (same w (run w es) from to) (leads_run w es))
    c.differences.ensures
