use Rattle.std.proofs.Common.{◌≡◌, ◌<◌, ◌+◌, ◌∷◌, ◌++◌, [], List, ℕ, map, get_or, take, Some, length, sym, ap, ap₂, ◌∙◌, arith}
use Rattle.std.proofs.lemmas.List.{take_more, take_all, length-map}
use Rattle.std.proofs.lemmas.List.Elements.{All-get_or}
use Rattle.std.proofs.lemmas.Grind.{common_steps}
use Rattle.json.specs.Value.{value_view}
use Rattle.hek_history_log.specs.LogText.{number_json, pair_json}
use Rattle.hek_history_log.specs.Readable.{IsOwnPair}
use Rattle.hek_history_log.proofs.JsonLemmas.{some_from_ok, array_items, array_length, item_at}
use Rattle.hek_history_log.proofs.KeptLemmas.{ok_is, ok_or_err, keeps-then}
use Rattle.hek_history_log.proofs.symbols.Symbols.pairs.Goals as goal

pub returns-in_err-pair : goal.returns-in_err-pair
returns-in_err-pair c ps own is =
    let some : c.items_of.result ≡ Some c.in_ok-items.items = some_from_ok c.items_of.result c.args.wanted c.in_ok-items.items c.in_ok-items.ensures.value in
    let items = array_items c.items_of.result c.in_ok-items.items (value_view c.args.value.now) (map pair_json ps) c.items_of.ensures.view is some in
    let at = item_at pair_json c.in_ok-items.items.now ps c.loop-item.item-index c.item-item.result (0, 0) items (omega arith) in
    let p = c.pair.ensures (get_or ps c.loop-item.item-index (0, 0)) (All-get_or IsOwnPair ps c.loop-item.item-index (0, 0) at.0 own) (ap value_view c.item-item.is ∙ at.1) in
    let e = c.in_err-pair.was in
    absurd (ok_or_err _ _ (sym p.0 ∙ e))

pub loop-item-preserved : goal.loop-item-preserved
loop-item-preserved c ps own items =
    let at = item_at pair_json c.in_ok-items.items.now ps c.loop-item.item-index c.item-item.result (0, 0) items (omega arith) in
    let p = c.pair.ensures (get_or ps c.loop-item.item-index (0, 0)) (All-get_or IsOwnPair ps c.loop-item.item-index (0, 0) at.0 own) (ap value_view c.item-item.is ∙ at.1) in
    let before = c.loop-item.invariant ps own items in
    let more = take_more ps c.loop-item.item-index (0, 0) at.0 in
    let e = c.in_ok-pair.was in
    let value : c.in_ok-pair.field-0 ≡ get_or ps c.loop-item.item-index (0, 0) = ok_is _ _ (sym e ∙ p.0) in
    (c.in_ok-push.ensures.items ∙ ap₂ (λ (a : List (ℕ × ℕ)) (b : ℕ × ℕ). a ++ b ∷ []) before.0 value ∙ sym more, keeps-then before.1 p.1)

pub returns : goal.returns
returns c ps own is =
    let some : c.items_of.result ≡ Some c.in_ok-items.items = some_from_ok c.items_of.result c.args.wanted c.in_ok-items.items c.in_ok-items.ensures.value in
    let items = array_items c.items_of.result c.in_ok-items.items (value_view c.args.value.now) (map pair_json ps) c.items_of.ensures.view is some in
    let before = c.loop-item.invariant ps own items in
    let many = array_length c.items_of.result c.in_ok-items.items (value_view c.args.value.now) (map pair_json ps) c.items_of.ensures.view is some in
    let all = take_all c.loop-item.item-index ps (omega (arith, many, length-map ps pair_json)) in
    (before.0 ∙ all, before.1)
