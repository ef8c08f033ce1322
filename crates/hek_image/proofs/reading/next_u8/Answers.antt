use Rattle.std.proofs.Common.{◌≡◌, ◌+◌, ◌≤◌, ◌∙◌, ℕ, Err, Result, length, arith, rules, subst, sym, ap}
use Rattle.std.specs.Int.{w8}
use Rattle.hek_image.specs.declared.fault.LoadFault.{LoadFault}
use Rattle.hek_image.specs.declared.fault.LoadFault.TheVariants as load
use Rattle.hek_image.specs.Loading.{number_within}
use Rattle.hek_image.specs.Places.{place_seen}
use Rattle.hek_image.specs.Gives.{FieldFails}
use Rattle.hek_image.specs.Taking.{Takes}
use Rattle.hek_image.proofs.Steady.{within_steady}
use Rattle.hek_image.proofs.Readers.{here}
use Rattle.hek_image.proofs.Exact.{within_exact}
use Rattle.hek_image.proofs.Takings.{took_value, took_fault, took_nothing, all_held, short_is_less, nothing_within}
use Rattle.hek_image.proofs.reading.next_u8.Goals as goal

pub returns-in_err-take_more-clause-takes : goal.returns-in_err-take_more-clause-takes
returns-in_err-take_more-clause-takes g c told =
    let low = c.args.low in
    let high = c.args.high in
    let fault = c.in_err-take_more.field-0.0 in
    let is : c.from_residual.result ≡ Err fault = search rules in
    subst (λ (s : Result ℕ LoadFault). Takes (λ (n : ℕ). (n, c.args.at + 1)) (number_within low high w8) c.args.at 1 s (g.S.Source.left c.args.source.now) (g.S.Source.left c.take_more.new.source)) (sym is)
    (took_nothing (λ (n : ℕ). (n, c.args.at + 1)) (λ (n : ℕ). n ≤ high) 1 (number_within low high w8) c.args.at fault _ _ (within_steady low high w8)
    c.in_err-take_more.ensures.fault
    (λ short. c.take_more.ensures.end (c.in_err-take_more.was ∙ ap (λ (e : LoadFault). Err e) short) told)
    (nothing_within low high c.args.at)
    (c.in_err-take_more.ensures.nothing told))

pub returns-in_err-number-clause-takes : goal.returns-in_err-number-clause-takes
returns-in_err-number-clause-takes g c told =
    let buffer = c.take_more.new.buffer in
    let one : length buffer ≡ 1 = omega arith in
    let low = c.args.low in
    let high = c.args.high in
    let r = number_within low high w8 in
    let fault = c.in_err-number.field-0.0 in
    let is : c.from_residual-in_err-number.result ≡ Err fault = search rules in
    let parts = all_held c.in_ok-take_more.field-0 buffer _ _ (omega (arith, one, c.in_ok-take_more.ensures.moves)) (c.in_ok-take_more.ensures.gives told) in
    let other : fault ≡ load.Short → ⊥ = λ short. absurd (omega (arith, one, short_is_less (λ (n : ℕ). n ≤ high) 1 r (within_steady low high w8) c.args.at buffer (subst (λ (e : LoadFault). FieldFails e (r (here c.args.at buffer))) short c.in_err-number.ensures.gives))) in
    subst (λ (s : Result ℕ LoadFault). Takes (λ (n : ℕ). (n, c.args.at + 1)) r c.args.at 1 s (g.S.Source.left c.args.source.now) (g.S.Source.left c.take_more.new.source)) (sym is)
    (took_fault (λ (n : ℕ). n ≤ high) 1 r (within_steady low high w8) c.args.at buffer (λ (n : ℕ). (n, c.args.at + 1)) fault _ _ other c.in_err-number.ensures.gives parts (omega (arith, one)))

pub returns-clause-takes : goal.returns-clause-takes
returns-clause-takes g c told =
    let buffer = c.take_more.new.buffer in
    let one : length buffer ≡ 1 = omega arith in
    let low = c.args.low in
    let high = c.args.high in
    let parts = all_held c.in_ok-take_more.field-0 buffer _ _ (omega (arith, one, c.in_ok-take_more.ensures.moves)) (c.in_ok-take_more.ensures.gives told) in
    took_value (λ (n : ℕ). n ≤ high) 1 (number_within low high w8) (within_steady low high w8) c.args.at buffer (λ (n : ℕ). (n, c.args.at + 1)) c.in_ok-number.number (place_seen c.in_ok-number.field-0-1) _ _ (within_exact low high w8)
    c.in_ok-number.ensures.gives
    ((within_exact low high w8).exact (here c.args.at buffer) c.in_ok-number.number (place_seen c.in_ok-number.field-0-1) c.in_ok-number.ensures.gives).1
    parts (omega (arith, one))
