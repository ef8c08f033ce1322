use Rattle.std.proofs.Common.{◌≡◌, ◌-◌, ℕ, Some, true, map, length, get_or, sym, ap, ◌∙◌}
use Rattle.std.proofs.lemmas.Option.{slice_get_within, get_or_from_slice_get}
use Rattle.std.specs.Prelude.{slice_get}
use Rattle.std.specs.Option.{option_copied}
use Rattle.json.specs.Value.{value_view}
use Rattle.hek_history.specs.declared.history.Operation.TheVariants.{Delete}
use Rattle.hek_history_log.specs.LogText.{operation_json}
use Rattle.hek_history_log.proofs.JsonLemmas.{item_at}
use Rattle.hek_history_log.proofs.operations.lacks_answer.Goals as goal

pub returns-in-Some-last : goal.returns-in-Some-last
returns-in-Some-last c ops is =
    let items = c.in-Some.ensures (map operation_json ops) is in
    let last : ℕ = length c.in-Some.items.now - 1 in
    let found : slice_get c.in-Some.items.now last ≡ Some c.in-Some-last.item.now = sym c.last.ensures.value ∙ ap option_copied c.in-Some-last.is in
    let at = item_at operation_json c.in-Some.items.now ops last c.in-Some-last.item.now (Delete 0 true) items (slice_get_within c.in-Some.items.now last c.in-Some-last.item.now found) in
    let same = get_or_from_slice_get c.in-Some.items.now last c.in-Some-last.item.now c.in-Some-last.item.now found in
    c.is_unanswered.ensures (get_or ops last (Delete 0 true)) (ap value_view (sym same) ∙ at.1)
