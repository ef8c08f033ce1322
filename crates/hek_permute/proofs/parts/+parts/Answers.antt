use Rattle.std.proofs.lemmas.Result.{IfOk-at_ok}
use Rattle.hek_permute.specs.Wholes.{IsWhole}
use Rattle.hek_permute.proofs.Joins.{sum_whole}
use Rattle.hek_permute.proofs.parts.+parts.Goals as goal

pub returns : goal.returns
returns g t c =
    let middle = c.middle_of-middle.result in
    sum_whole c.plus.result c.args.schedule.now c.args.rules.now c.args.form c.args.from middle c.args.to c.in_ok-first.field-0 c.in_ok-second.field-0
    c.middle_of-middle.ensures.0 c.middle_of-middle.ensures.1
    (IfOk-at_ok (IsWhole c.args.schedule.now c.args.rules.now c.args.form c.args.from middle) c.in_ok-first.was c.join-first.ensures.first)
    (IfOk-at_ok (IsWhole c.args.schedule.now c.args.rules.now c.args.form middle c.args.to) c.in_ok-second.was c.join-first.ensures.second)
    c.plus.ensures
