use Rattle.std.proofs.Common.{sym}
use Rattle.hek_why.proofs.Causes.{causes_ok}
use Rattle.hek_why.proofs.explain.reasons.Goals as goal

pub returns-in-Some-clause-cause : goal.returns-in-Some-clause-cause
returns-in-Some-clause-cause c =
    causes_ok (λ v. v.items) c.args.step.now.before.now c.args.dooms.now c.in-Some.t c.args.step.now.event c.args.step.now.reply.now c.reasons_of.result
    (sym c.in-Some.ensures) c.reasons_of.ensures
