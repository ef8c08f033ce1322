use Rattle.std.proofs.Common.{◌∙◌, sym}
use Rattle.hek_why.proofs.Numbers.{gathered_number}
use Rattle.hek_why.proofs.waits.wait_reasons.Goals as goal

pub returns-clause-number : goal.returns-clause-number
returns-clause-number c = λ w s.
    gathered_number c.args.machine.now w c.args.u c.as_slice.result.now c.as_slice-2.result.now c.new-list.result.items c.add_versions.new.list.items c.add_holders.new.list.items
    s c.new-list.ensures.items (c.in_ok-add_versions.ensures w s) (c.in_ok-add_holders.ensures w s)
    (c.in_ok-versions.ensures w s ∙ sym c.as_slice.ensures.value) (c.in_ok-holders.ensures.members w s ∙ sym c.as_slice-2.ensures.value)
