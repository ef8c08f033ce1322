use Rattle.std.proofs.Common.{ℕ, ◌∙◌, ap, sym, length, map}
use Rattle.hek_why.specs.declared.reason.Reason.TheVariants.{Depends}
use Rattle.hek_why.proofs.Numbers.{commits_number}
use Rattle.hek_why.proofs.waits.commit_reasons.Goals as goal

pub returns-clause-number : goal.returns-clause-number
returns-clause-number c = λ w s.
    sym (commits_number c.args.machine.now w c.args.t s)
    ∙ ap length (ap (map (λ (u : ℕ). Depends u)) (c.in_ok-txns.ensures w s ∙ sym c.as_slice.ensures.value) ∙ sym c.in_ok-list.ensures)
