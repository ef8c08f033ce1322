use Rattle.std.proofs.Common.{◌≡◌}
use Rattle.std.proofs.lemmas.Result.{IfOk-at_ok}
use Rattle.hek_rules.specs.declared.serial.Verdict.TheVariants.{Serial}
use Rattle.hek_threads_command.proofs.Histories.{judged}
use Rattle.hek_threads_command.proofs.outcome.judge.Goals as goal

pub returns : goal.returns
returns c =
    IfOk-at_ok (λ v. v ≡ Serial) c.in_ok-verdict.was
    (judged c.args.schedule.now c.args.report.history.items c.in_ok-told.told c.check.result c.requires c.in_ok-told.ensures c.check.ensures)
