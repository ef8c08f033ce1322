use Rattle.std.proofs.Common.{◌∙◌, ap, sym}
use Rattle.std.specs.Prelude.{is_some}
use Rattle.hek_rules.specs.Listing.{value_of}
use Rattle.hek_serial.proofs.EndSteps.{one_noted, none_is}
use Rattle.hek_serial.proofs.ends.note_end.Goals as goal

pub returns-in_ok-put-in-Some : goal.returns-in_ok-put-in-Some
returns-in_ok-put-in-Some c u =
    let found = c.in-Some.found in
    let none = none_is (value_of c.args.ends.now found.0) (ap (λ n. is_some (value_of c.args.ends.now n)) (sym c.number.ensures) ∙ ap (λ o. is_some o) (sym c.value_of.ensures) ∙ sym c.is_some.ensures ∙ c.if-is_some.false) in
    rw (c.in_ok-put-in-Some.ensures.ok, c.number-else-is_some.ensures, c.number-else-is_some-2.ensures)
    (one_noted c.args.ends.now found.0 found.1 c.args.event c.args.reply.now c.in-Some.ensures none u)
