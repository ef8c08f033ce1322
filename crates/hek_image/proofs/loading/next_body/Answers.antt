use Rattle.std.proofs.Common.{◌≡◌, ◌*◌, ℕ, Err, arith, refl, rules}
use Rattle.hek_image.specs.Loading.{row_at, txn_at, step_at, times}
use Rattle.hek_image.proofs.Takings.{then_fault, then_takes}
use Rattle.hek_image.proofs.loading.next_body.Goals as goal

pub returns-in_err-at-clause-takes : goal.returns-in_err-at-clause-takes
returns-in_err-at-clause-takes g c told =
    let head = c.args.header in
    let is : c.from_residual.result ≡ Err c.in_err-at.field-0.0 = search rules in
    then_fault (λ (n : ℕ). (c.next_items.new.schedule, n)) _ (times head.rows row_at c.args.schedule.now) _ 22 (head.rows * 16) 22083392 c.in_err-at.field-0.0 c.from_residual.result _ _ (omega arith) is (c.in_err-at.ensures.takes told)

pub returns-in_err-at-2-clause-takes : goal.returns-in_err-at-2-clause-takes
returns-in_err-at-2-clause-takes g c told =
    let head = c.args.header in
    let is : c.from_residual-in_err-at-2.result ≡ Err c.in_err-at-2.field-0.0 = search rules in
    let told1 = c.in_ok-at.ensures.tells told in
    then_takes (λ (n : ℕ). (c.next_items.new.schedule, n)) _ (times head.rows row_at c.args.schedule.now) _ _ 22 c.in_ok-at.at (head.rows * 16) 21034816 22083392 c.in_ok-at.at c.from_residual-in_err-at-2.result _ _ _ (omega arith) refl refl (c.in_ok-at.ensures.takes told)
    (then_fault (λ (n : ℕ). (c.next_txns.new.schedule, n)) _ (times head.txns (txn_at head.version) c.next_items.new.schedule) _ c.in_ok-at.at (head.txns * 34) 21034816 c.in_err-at-2.field-0.0 c.from_residual-in_err-at-2.result _ _ (omega arith) is (c.in_err-at-2.ensures.takes told1))

pub returns-clause-takes : goal.returns-clause-takes
returns-clause-takes g c told =
    let head = c.args.header in
    let told1 = c.in_ok-at.ensures.tells told in
    let told2 = c.in_ok-at-2.ensures.tells told1 in
    then_takes (λ (n : ℕ). (c.next_items.new.schedule, n)) _ (times head.rows row_at c.args.schedule.now) _ _ 22 c.in_ok-at.at (head.rows * 16) 21034816 22083392 c.in_ok-at.at c.next_items-2.result _ _ _ (omega arith) refl refl (c.in_ok-at.ensures.takes told)
    (then_takes (λ (n : ℕ). (c.next_txns.new.schedule, n)) _ (times head.txns (txn_at head.version) c.next_items.new.schedule) _ (times head.steps step_at c.next_txns.new.schedule) c.in_ok-at.at c.in_ok-at-2.at (head.txns * 34) (head.steps * 21) 21034816 c.in_ok-at-2.at c.next_items-2.result _ _ _ (omega arith) refl refl (c.in_ok-at-2.ensures.takes told1) (c.next_items-2.ensures.takes told2))
