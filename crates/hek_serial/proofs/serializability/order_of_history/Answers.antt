use Rattle.std.proofs.Common.{◌≡◌, ◌∙◌, ◌<◌, ℕ, List, [], ap, map, sym, subst, arith, length}
use Rattle.std.specs.List.{zip}
use Rattle.std.specs.Option.{MatchOption}
use Rattle.hek_rules.proofs.Zips.{zip-length}
use Rattle.hek_rules.specs.Faults.{put_all}
use Rattle.hek_rules.specs.Recorded.{Recorded}
use Rattle.hek_serial.specs.BucketRows.{BucketRows}
use Rattle.hek_serial.specs.SerialOrders.{by_end, IsSerialFrom, IsSerialOrder}
use Rattle.hek_serial.proofs.SerialOrders.{all-plain, match-both}
use Rattle.hek_serial.proofs.serializability.order_of_history.Goals as goal

pub returns-then-plain-events : goal.returns-then-plain-events
returns-then-plain-events c order is =
    let long = zip-length c.args.events.now c.args.replies.now c.requires.same in
    c.in_ok-plain.ensures.wrong (omega (arith, long, c.if-plain-events.true)) (is.plain c.in_ok-plain.plain)

pub returns : goal.returns
returns c =
    let h = zip c.args.events.now c.args.replies.now in
    let s : Recorded = record { buckets = c.args.buckets; rows = c.args.pairs.now; levels = c.args.levels.now; history = h } in
    let long = zip-length c.args.events.now c.args.replies.now c.requires.same in
    let found = c.in_ok-found.found in
    let first = c.deref-2.result.now in
    let left : first ≡ by_end s = c.deref-2.ensures.value ∙ c.in_ok-left.ensures ∙ ap (map (λ (x : ℕ × ℕ). x.1)) (c.deref.ensures.value ∙ c.in_ok-order.ensures) in
    match-both found ((order : List ℕ) → IsSerialFrom s.buckets h (put_all s.rows []) (by_end s) order → ⊥) ((order : List ℕ) → IsSerialOrder s order → ⊥)
    (λ order. IsSerialFrom s.buckets h (put_all s.rows []) (by_end s) order.items) (λ order. IsSerialOrder s order.items)
    (λ none order is. none order is.follows)
    (λ order follows. record { plain = all-plain s.levels h c.in_ok-plain.plain c.in_ok-plain.ensures (omega (arith, long, c.if-plain-events.false)); follows = follows })
    (subst (λ (l : List ℕ). MatchOption found ((order : List ℕ) → IsSerialFrom s.buckets h (put_all s.rows []) l order → ⊥) (λ order. IsSerialFrom s.buckets h (put_all s.rows []) l order.items)) left
    (subst (λ (rows : BucketRows). MatchOption found ((order : List ℕ) → IsSerialFrom rows.buckets h rows.rows first order → ⊥) (λ order. IsSerialFrom rows.buckets h rows.rows first order.items)) c.in_ok-rows.ensures
    c.in_ok-found.ensures.found))
