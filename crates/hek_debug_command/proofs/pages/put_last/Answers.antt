use Rattle.std.proofs.Common.{◌-◌, ◌∙◌, ap, sym}
use Rattle.hek_rules.specs.Plan.{Plan}
use Rattle.hek_debug.proofs.Worlds.{bucket_count}
use Rattle.hek_debug_command.proofs.pages.put_last.Goals as goal

-- the machine before the step has the buckets of the schedule
pub explain_step-requires-clause-buckets : goal.explain_step-requires-clause-buckets
explain_step-requires-clause-buckets c =
    bucket_count c.args.debugger.now.plan (c.at-at.result - 1) c.in_ok-machine.machine c.in_ok-machine.ensures
    ∙ ap (λ (p : Plan). p.buckets) (sym c.schedule.ensures)
