use Rattle.std.proofs.Common.{◌≡◌, ◌∙◌, ◌<◌, ◌≤◌, ℕ, ap, sym, subst, arith, length, take, refl}
use Rattle.std.specs.List.{zip}
use Rattle.std.specs.Prelude.{filter, nat_lt}
use Rattle.hek_rules.specs.Serial.{lay_all, writes_of, laid_over, serial_rows}
use Rattle.hek_serial.specs.BucketRows.{BucketRows}
use Rattle.hek_serial.specs.Replay.{at_place, IsInOrder}
use Rattle.hek_serial.proofs.Laid.{filter-front}
use Rattle.hek_serial.proofs.Orders.{times_rise}
use Rattle.hek_serial.proofs.explain.find.Goals as goal

pub returns : goal.returns
returns c =
    let h = zip c.args.events.now c.args.replies.now in
    let order = c.args.order.now in
    let rows = c.args.rows.now in
    let n = c.in_ok-_laid._laid in
    let reach = c.in_ok-_laid.ensures.reach in
    let rises : IsInOrder order = subst IsInOrder (sym c.requires.order) (times_rise h) in
    let below : (k : ℕ) → k < n → (at_place order k).0 < c.args.time = λ k l. reach.below k (omega arith) l in
    let above : (k : ℕ) → n ≤ k → k < length order → c.args.time ≤ (at_place order k).0 =
    λ k a l. let s = reach.stop (omega (arith, a, l)) in let r = rises.later n k a l in omega (arith, s, r) in
    let front = filter-front order n c.args.time reach.within below above in
    let found : laid_over h (take n order) rows.rows ≡ serial_rows h rows.rows c.args.time =
    ap (λ xs. laid_over h xs rows.rows) (sym front) ∙ ap (λ xs. laid_over h (filter (λ (x : ℕ × ℕ). nat_lt x.0 c.args.time) xs) rows.rows) c.requires.order in
    c.in_ok-lay_writes_before.ensures
    ∙ ap (λ (s : BucketRows). record { buckets = s.buckets; rows = lay_all (writes_of c.args.t (take c.args.place h)) s.rows })
    (c.in_ok-_laid.ensures.laid rows refl ∙ ap (λ xs. record { buckets = rows.buckets; rows = xs }) found)
