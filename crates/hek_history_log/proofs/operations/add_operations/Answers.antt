use Rattle.std.proofs.Common.{◌≡◌, ◌<◌, ◌++◌, ◌∷◌, [], ℕ, List, Some, true, map, take, get_or, length, sym, ap, ◌∙◌, arith, append_assoc}
use Rattle.std.proofs.lemmas.List.{take_more, take_all, length-map, map-append}
use Rattle.std.proofs.lemmas.List.Elements.{All-get_or}
use Rattle.json.specs.Value.{value_view}
use Rattle.hek_history.specs.declared.history.Operation.{Operation}
use Rattle.hek_history.specs.declared.history.Operation.TheVariants.{Delete}
use Rattle.hek_history_log.specs.Contents.{Content, content}
use Rattle.hek_history_log.specs.LogText.{operation_json}
use Rattle.hek_history_log.specs.Readable.{IsReadable}
use Rattle.hek_history_log.proofs.JsonLemmas.{item_at, length_of}
use Rattle.hek_history_log.proofs.KeptLemmas.{gives_ok, gives_err, keeps-then}
use Rattle.hek_history_log.proofs.operations.add_operations.Goals as goal

pub returns-in-Err : goal.returns-in-Err
returns-in-Err c buckets ops all given items =
    let before = c.loop-place.invariant buckets ops all given items in
    let place = c.loop-place.place in
    let at = item_at operation_json c.args.items.now ops place c.index-items-place.result (Delete 0 true) items (omega arith) in
    let r = c.add_operation.ensures buckets (get_or ops place (Delete 0 true)) (All-get_or (IsReadable buckets) ops place (Delete 0 true) at.0 all) (before.0.buckets ∙ given) (ap value_view c.index-items-place.is ∙ at.1) in
    c.fault.ensures (gives_err c.add_operation.result _ _ c.in-Err.misfit r c.in-Err.is)

pub loop-place-preserved : goal.loop-place-preserved
loop-place-preserved c buckets ops all given items =
    let before = c.loop-place.invariant buckets ops all given items in
    let place = c.loop-place.place in
    let at = item_at operation_json c.args.items.now ops place c.index-items-place.result (Delete 0 true) items (omega arith) in
    let op = get_or ops place (Delete 0 true) in
    let r = c.add_operation.ensures buckets op (All-get_or (IsReadable buckets) ops place (Delete 0 true) at.0 all) (before.0.buckets ∙ given) (ap value_view c.index-items-place.is ∙ at.1) in
    let g = gives_ok c.add_operation.result _ _ c.in-Ok.field-0 r c.in-Ok.is in
    let more = ap (map content) (take_more ops place (Delete 0 true) at.0) ∙ map-append content (take place ops) (op ∷ []) in (
      keeps-then before.0 g.0,
      g.1 ∙ ap (λ (l : List Content). l ++ content op ∷ []) before.1 ∙ append_assoc (map content c.args.operations.now.items) (map content (take place ops)) (content op ∷ [])
          ∙ ap (λ (l : List Content). map content c.args.operations.now.items ++ l) (sym more),
    )

pub returns : goal.returns
returns c buckets ops all given items =
    let before = c.loop-place.invariant buckets ops all given items in
    let many : length c.args.items.now ≡ length ops = length_of c.args.items.now (map operation_json ops) items ∙ length-map ops operation_json in
    let whole = take_all c.loop-place.place ops (omega arith) in
    (before.0, before.1 ∙ ap (λ (l : List Operation). map content c.args.operations.now.items ++ map content l) whole)
