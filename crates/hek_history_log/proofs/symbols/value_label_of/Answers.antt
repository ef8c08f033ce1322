use Rattle.std.proofs.Common.{◌≡◌, Some, arith, pos}
use Rattle.std.proofs.lemmas.Int.{ints}
use Rattle.json.specs.Value.{value_view}
use Rattle.hek_history_log.proofs.JsonLemmas.{as_i64-number_json}
use Rattle.hek_history_log.proofs.symbols.value_label_of.Goals as goal

pub returns-in-Some : goal.returns-in-Some
returns-in-Some c n small is =
    let e = as_i64-number_json (value_view c.args.value.now) c.as_i64.result n small is c.as_i64.ensures in
    let f : c.in-Some.number ≡ pos n = cc in
    absurd (omega (arith, ints))
