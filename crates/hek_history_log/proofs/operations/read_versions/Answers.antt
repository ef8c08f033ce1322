use Rattle.std.proofs.Common.{◌≡◌, map, get_or, true, ap, sym, ◌∙◌, arith}
use Rattle.json.specs.Value.{value_view}
use Rattle.hek_history.specs.declared.history.Operation.TheVariants.{Delete}
use Rattle.hek_history_log.specs.LogText.{operation_json}
use Rattle.hek_history_log.proofs.JsonLemmas.{item_at}
use Rattle.hek_history_log.proofs.KeptLemmas.{ok_or_err}
use Rattle.hek_history_log.proofs.operations.read_versions.Goals as goal

pub returns-in-Err : goal.returns-in-Err
returns-in-Err c ops is =
    let items = c.in-Some.ensures (map operation_json ops) is in
    let place = c.loop-place.place in
    let at = item_at operation_json c.in-Some.items.now ops place c.index-items-place.result (Delete 0 true) items (omega arith) in
    absurd (ok_or_err _ _ (sym (c.version_in.ensures (get_or ops place (Delete 0 true)) (ap value_view c.index-items-place.is ∙ at.1)) ∙ c.in-Err.is))
