use Rattle.std.proofs.Common.{ℕ, ◌≡◌, ◌+◌, ◌<◌, ◌∷◌, ◌++◌, [], length, take, arith, subst, ◌∙◌, sym, ap, List, get_or, Ok, Err}
use Rattle.std.specs.List.{All}
use Rattle.std.proofs.lemmas.List.{get_or_default}
use Rattle.std.proofs.lemmas.List.Elements.{All-push}
use Rattle.hek_deadlock.specs.Places.{id_at}
use Rattle.hek_deadlock.proofs.Searched.{search_says, place_noted, place_missed, AreNoted}
use Rattle.hek_deadlock.proofs.nodes.places.Goals.{in-Ok+in_ok-push, in_default}
use Rattle.hek_deadlock.proofs.nodes.places.Goals as goal

pub loop-waiter-preserved : goal.loop-waiter-preserved
loop-waiter-preserved c =
    let within : c.loop-waiter.waiter-index < length c.args.waiters.now = omega (arith, c.loop-waiter-test.true, c.loop-waiter.auto.waiter-index-end) in
    let item : c.waiter-item.result ≡ get_or c.args.waiters.now c.loop-waiter.waiter-index 0 = c.waiter-item.is ∙ get_or_default c.args.waiters.now c.loop-waiter.waiter-index c.waiter-item.result 0 within in
    elim c.match-binary_search.branch [
      | in-Ok+in_ok-push w ↦
          let told : (w.in-Ok.i < length c.args.ids.now) × (id_at c.args.ids.now w.in-Ok.i ≡ c.waiter-item.result) = search_says c.args.ids.now c.waiter-item.result c.binary_search.result (Ok w.in-Ok.i) w.in-Ok.is c.requires c.binary_search.ensures.position in
          let pushed : c.match-binary_search.places.items ≡ c.loop-waiter.places.items ++ w.in-Ok.i ∷ [] = ap (λ v. v.items) w.places-is ∙ w.in_ok-push.ensures.items in
          record {
            range = rw pushed (All-push (λ i. i < length c.args.ids.now) c.loop-waiter.places.items w.in-Ok.i c.loop-waiter.invariant.range told.0);
            each = place_noted c.args.ids.now c.args.waiters.now c.loop-waiter.places.items c.match-binary_search.places.items c.requires c.loop-waiter.waiter-index w.in-Ok.i c.waiter-item.result within item told.0 told.1 pushed c.loop-waiter.invariant.each;
          }
      | in_default w ↦
          let told : (i : ℕ) → i < length c.args.ids.now → c.waiter-item.result ≡ id_at c.args.ids.now i → ⊥ = search_says c.args.ids.now c.waiter-item.result c.binary_search.result (Err w.in_default.field-0) w.in_default.is c.requires c.binary_search.ensures.position in
          let same : c.match-binary_search.places.items ≡ c.loop-waiter.places.items = ap (λ v. v.items) w.places-is in
          record {
            range = subst (λ (ps : List ℕ). All (λ i. i < length c.args.ids.now) ps) (sym same) c.loop-waiter.invariant.range;
            each = subst (λ (ps : List ℕ). AreNoted c.args.ids.now (take (c.loop-waiter.waiter-index + 1) c.args.waiters.now) ps) (sym same) (place_missed c.args.ids.now c.args.waiters.now c.loop-waiter.places.items c.loop-waiter.waiter-index c.waiter-item.result within item told c.loop-waiter.invariant.each);
          }
    ]
