use Rattle.std.proofs.Common.{◌≡◌, ◌<◌, ◌++◌, ◌∷◌, [], ℕ, List, map, take, get_or, length, sym, ap, ap₂, ◌∙◌, arith, append_assoc}
use Rattle.std.proofs.lemmas.List.{take_more, take_all, length-map}
use Rattle.std.proofs.lemmas.List.Elements.{All-get_or}
use Rattle.json.specs.Value.{value_view}
use Rattle.hek_history_log.specs.LogText.{pair_json}
use Rattle.hek_history_log.specs.Readable.{IsOwnPair}
use Rattle.hek_history_log.proofs.JsonLemmas.{item_at, length_of}
use Rattle.hek_history_log.proofs.KeptLemmas.{ok_is, ok_or_err, keeps-then}
use Rattle.hek_history_log.proofs.fields.add_rows.Goals as goal

pub returns-in-Err : goal.returns-in-Err
returns-in-Err c ps own items =
    let place = c.loop-place.place in
    let at = item_at pair_json c.args.items.now ps place c.index-items-place.result (0, 0) items (omega arith) in
    let p = c.pair.ensures (get_or ps place (0, 0)) (All-get_or IsOwnPair ps place (0, 0) at.0 own) (ap value_view c.index-items-place.is ∙ at.1) in
    absurd (ok_or_err _ _ (sym p.0 ∙ c.in-Err.is))

pub loop-place-preserved : goal.loop-place-preserved
loop-place-preserved c ps own items =
    let before = c.loop-place.invariant ps own items in
    let place = c.loop-place.place in
    let at = item_at pair_json c.args.items.now ps place c.index-items-place.result (0, 0) items (omega arith) in
    let p = c.pair.ensures (get_or ps place (0, 0)) (All-get_or IsOwnPair ps place (0, 0) at.0 own) (ap value_view c.index-items-place.is ∙ at.1) in
    let row : c.in-Ok.row ≡ get_or ps place (0, 0) = ok_is _ _ (sym c.in-Ok.is ∙ p.0) in
    let more = take_more ps place (0, 0) at.0 in (
      keeps-then before.0 p.1,
      c.in_ok-push-in-Ok.ensures.items ∙ ap₂ (λ (a : List (ℕ × ℕ)) (b : ℕ × ℕ). a ++ b ∷ []) before.1 row
          ∙ append_assoc c.args.rows.now.items (take place ps) (get_or ps place (0, 0) ∷ [])
          ∙ ap (λ (l : List (ℕ × ℕ)). c.args.rows.now.items ++ l) (sym more),
    )

pub returns : goal.returns
returns c ps own items =
    let before = c.loop-place.invariant ps own items in
    let many : length c.args.items.now ≡ length ps = length_of c.args.items.now (map pair_json ps) items ∙ length-map ps pair_json in
    let whole = take_all c.loop-place.place ps (omega arith) in
    (before.0, before.1 ∙ ap (λ (l : List (ℕ × ℕ)). c.args.rows.now.items ++ l) whole)
