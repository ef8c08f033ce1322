use Rattle.std.proofs.Common.{◌≡◌, ◌+◌, ℕ, Err, arith, refl, rules, ap, sym}
use Rattle.std.specs.Int.{w8}
use Rattle.hek_rules.specs.declared.event.Level.{Level}
use Rattle.hek_image.specs.Loading.{number_within, txn_at, level_coded}
use Rattle.hek_image.specs.Taking.{named_txn_at}
use Rattle.hek_image.proofs.Takings.{then_fault, then_takes}
use Rattle.hek_image.proofs.reading.next_txn.Goals as goal

pub returns-in_err-level-clause-takes : goal.returns-in_err-level-clause-takes
unfolding txn_at
returns-in_err-level-clause-takes g c told =
    let is : c.from_residual.result ≡ Err c.in_err-level.field-0.0 = search rules in
    then_fault (λ (n : ℕ). (n, c.args.at + 1)) _ (number_within 1 (c.args.version + 1) w8) _ c.args.at 1 34 c.in_err-level.field-0.0 c.from_residual.result _ _ (omega arith) is (c.in_err-level.ensures.takes told)

pub returns-in_err-len-clause-takes : goal.returns-in_err-len-clause-takes
unfolding txn_at
returns-in_err-len-clause-takes g c told =
    let is : c.from_residual-in_err-len.result ≡ Err c.in_err-len.field-0.0 = search rules in
    let told1 = c.in_ok-level.ensures.tells told in
    then_takes (λ (n : ℕ). (n, c.args.at + 1)) _ (number_within 1 (c.args.version + 1) w8) _ _ c.args.at (c.args.at + 1) 1 33 34 c.in_ok-level.level c.from_residual-in_err-len.result _ _ _ (omega arith) refl refl (c.in_ok-level.ensures.takes told)
    (then_fault (λ (n : ℕ). (n, c.args.at + 1 + 1)) _ (number_within 1 32 w8) _ (c.args.at + 1) 1 33 c.in_err-len.field-0.0 c.from_residual-in_err-len.result _ _ (omega arith) is (c.in_err-len.ensures.takes told1))

pub returns-clause-takes : goal.returns-clause-takes
unfolding txn_at
returns-clause-takes g c told =
    let plan = c.args.schedule.now in
    let len = c.in_ok-len.len in
    let told1 = c.in_ok-level.ensures.tells told in
    let told2 = c.in_ok-len.ensures.tells told1 in
    let name : named_txn_at (level_coded c.in_ok-level.level) len plan ≡ named_txn_at c.level_coded.result len plan = ap (λ (l : Level). named_txn_at l len plan) (sym c.level_coded.ensures) in
    then_takes (λ (n : ℕ). (n, c.args.at + 1)) _ (number_within 1 (c.args.version + 1) w8) _ _ c.args.at (c.args.at + 1) 1 33 34 c.in_ok-level.level c.next_item.result _ _ _ (omega arith) refl refl (c.in_ok-level.ensures.takes told)
    (then_takes (λ (n : ℕ). (n, c.args.at + 1 + 1)) _ (number_within 1 32 w8) _ (named_txn_at c.level_coded.result len plan) (c.args.at + 1) (c.args.at + 2) 1 len 33 len c.next_item.result _ _ _ (omega (arith, c.in_ok-len.ensures.within.1)) (omega arith) name (c.in_ok-len.ensures.takes told1) (c.next_item.ensures.takes told2))
