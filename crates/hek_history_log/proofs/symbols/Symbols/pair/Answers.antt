use Rattle.std.proofs.Common.{◌≡◌, ◌<◌, ◌≤◌, ◌∷◌, [], Some, length, arith}
use Rattle.json.specs.Value.{value_view}
use Rattle.hek_history_log.specs.LogText.{number_json}
use Rattle.hek_history_log.proofs.JsonLemmas.{some_from_ok, array_length}
use Rattle.hek_history_log.proofs.symbols.Symbols.pair.Goals as goal

pub returns-in_default : goal.returns-in_default
returns-in_default c p own is =
    let some : c.items_of.result ≡ Some c.in_ok-items.items = some_from_ok c.items_of.result c.args.wanted c.in_ok-items.items c.in_ok-items.ensures.value in
    let two : length c.in_ok-items.items.now ≡ 2 = array_length c.items_of.result c.in_ok-items.items (value_view c.args.value.now) (number_json p.0 ∷ number_json p.1 ∷ []) c.items_of.ensures.view is some in
    absurd (omega arith)

pub returns-in_default-2 : goal.returns-in_default-2
returns-in_default-2 c p own is =
    let some : c.items_of.result ≡ Some c.in_ok-items.items = some_from_ok c.items_of.result c.args.wanted c.in_ok-items.items c.in_ok-items.ensures.value in
    let two : length c.in_ok-items.items.now ≡ 2 = array_length c.items_of.result c.in_ok-items.items (value_view c.args.value.now) (number_json p.0 ∷ number_json p.1 ∷ []) c.items_of.ensures.view is some in
    absurd (omega arith)
