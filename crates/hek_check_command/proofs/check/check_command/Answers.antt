use Rattle.std.proofs.Common.{subst, List, ℕ}
use Rattle.hek_asm.specs.Reading.{IsTraceOf}
use Rattle.hek_check_command.proofs.check.check_command.Goals as goal

pub returns : goal.returns
returns g c =
    let recorded = c.in_ok-transcript.transcript in
    record {
      plan = c.in_ok-schedule.schedule;
      is = c.in_ok-schedule.ensures;
      recorded = recorded;
      read = subst (λ (xs : List ℕ). IsTraceOf c.in_ok-schedule.schedule recorded xs) c.in-Ok.ensures.cases.0 c.in_ok-transcript.ensures;
      judges = c.in_ok-status.ensures.ok;
    }
