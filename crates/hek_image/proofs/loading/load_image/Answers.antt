use Rattle.std.proofs.Common.{◌≡◌, ◌∙◌, ℕ, List, Err, Ok, arith, ap, subst, refl, rules}
use Rattle.hek_rules.specs.Plan.{Plan}
use Rattle.hek_image.specs.declared.fault.LoadFault.{LoadFault}
use Rattle.hek_image.specs.declared.fault.LoadFault.TheVariants as load
use Rattle.hek_image.specs.declared.loading.Header.{Header}
use Rattle.hek_image.specs.Loading.{Header as Said, loading}
use Rattle.hek_image.specs.Places.{header_of}
use Rattle.hek_image.specs.Gives.{IsOpen, given_between}
use Rattle.hek_image.proofs.Loaded.{header_fault, body_taken, fault_loads, fault_is_open, loads, is_open, end_loads}
use Rattle.hek_image.proofs.loading.load_image.Goals as goal

abbrev seen : Plan × Header → (Plan × Said) × ℕ
seen x = ((x.0, header_of x.1), 22)

abbrev all : Plan × ℕ → Plan × ℕ
all x = x

pub returns-in_err-schedule-clause-gives : goal.returns-in_err-schedule-clause-gives
returns-in_err-schedule-clause-gives g c told =
    let e = c.in_err-schedule.field-0.0 in
    let is : c.from_residual.result ≡ Err e = search rules in
    fault_loads all 22083414 _ _ (λ (p : Plan). p) e c.from_residual.result is (header_fault seen e _ _ (c.in_err-schedule.ensures.takes told))

pub returns-in_err-schedule-clause-read : goal.returns-in_err-schedule-clause-read
returns-in_err-schedule-clause-read g c told read =
    let e = c.in_err-schedule.field-0.0 in
    let is : c.from_residual.result ≡ Err e = search rules in
    let same : e ≡ load.Read = cc in
    fault_is_open all 22083414 _ _ e same (header_fault seen e _ _ (c.in_err-schedule.ensures.takes told))

pub returns-in_err-next_body-clause-gives : goal.returns-in_err-next_body-clause-gives
returns-in_err-next_body-clause-gives g c told =
    let e = c.in_err-next_body.field-0.0 in
    let is : c.from_residual-in_err-next_body.result ≡ Err e = search rules in
    let view : ℕ → Plan × ℕ = λ n. (c.next_body.new.schedule, n) in
    let taken = body_taken seen view (c.in_ok-schedule.schedule, c.in_ok-schedule.header) (Err e) _ _ _ refl (c.in_ok-schedule.ensures.takes told) (c.in_err-next_body.ensures.takes (c.in_ok-schedule.ensures.tells told)) in
    fault_loads view 22083414 _ _ (λ (p : Plan). p) e c.from_residual-in_err-next_body.result is taken

pub returns-in_err-next_body-clause-read : goal.returns-in_err-next_body-clause-read
returns-in_err-next_body-clause-read g c told read =
    let e = c.in_err-next_body.field-0.0 in
    let is : c.from_residual-in_err-next_body.result ≡ Err e = search rules in
    let same : e ≡ load.Read = cc in
    let view : ℕ → Plan × ℕ = λ n. (c.next_body.new.schedule, n) in
    let taken = body_taken seen view (c.in_ok-schedule.schedule, c.in_ok-schedule.header) (Err e) _ _ _ refl (c.in_ok-schedule.ensures.takes told) (c.in_err-next_body.ensures.takes (c.in_ok-schedule.ensures.tells told)) in
    fault_is_open view 22083414 _ _ e same taken

pub returns-in_err-at_end-clause-gives : goal.returns-in_err-at_end-clause-gives
returns-in_err-at_end-clause-gives g c told =
    let e = c.in_err-at_end.field-0.0 in
    let is : c.from_residual-in_err-at_end.result ≡ Err e = search rules in
    let told1 = c.in_ok-schedule.ensures.tells told in
    let told2 = c.in_ok-next_body.ensures.tells told1 in
    let n = c.in_ok-next_body.field-0 in
    let view : ℕ → Plan × ℕ = λ m. (c.next_body.new.schedule, m) in
    let taken = body_taken seen view (c.in_ok-schedule.schedule, c.in_ok-schedule.header) (Ok n) _ _ _ refl (c.in_ok-schedule.ensures.takes told) (c.in_ok-next_body.ensures.takes told1) in
    end_loads view 22083414 _ _ n taken (λ (p : Plan). p) e c.from_residual-in_err-at_end.result is c.in_err-at_end.ensures.fault
    (λ trailing. omega (arith, c.at_end.ensures.trailing (c.in_err-at_end.was ∙ ap (λ (d : LoadFault). Err d) trailing) told2))

pub returns-in_err-at_end-clause-read : goal.returns-in_err-at_end-clause-read
returns-in_err-at_end-clause-read g c told read =
    let e = c.in_err-at_end.field-0.0 in
    let is : c.from_residual-in_err-at_end.result ≡ Err e = search rules in
    let same : e ≡ load.Read = cc in
    let told1 = c.in_ok-schedule.ensures.tells told in
    let told2 = c.in_ok-next_body.ensures.tells told1 in
    let n = c.in_ok-next_body.field-0 in
    let view : ℕ → Plan × ℕ = λ m. (c.next_body.new.schedule, m) in
    let taken = body_taken seen view (c.in_ok-schedule.schedule, c.in_ok-schedule.header) (Ok n) _ _ _ refl (c.in_ok-schedule.ensures.takes told) (c.in_ok-next_body.ensures.takes told1) in
    let still = c.at_end.ensures.read (c.in_err-at_end.was ∙ ap (λ (d : LoadFault). Err d) same) told2 in
    subst (λ (bs : List ℕ). IsOpen (loading (given_between (g.S.Source.left c.args.source.now) bs))) still (is_open view 22083414 _ _ n taken)

pub returns-clause-gives : goal.returns-clause-gives
returns-clause-gives g c told =
    let told1 = c.in_ok-schedule.ensures.tells told in
    let told2 = c.in_ok-next_body.ensures.tells told1 in
    let n = c.in_ok-next_body.field-0 in
    let view : ℕ → Plan × ℕ = λ m. (c.next_body.new.schedule, m) in
    let taken = body_taken seen view (c.in_ok-schedule.schedule, c.in_ok-schedule.header) (Ok n) _ _ _ refl (c.in_ok-schedule.ensures.takes told) (c.in_ok-next_body.ensures.takes told1) in
    loads view 22083414 _ _ n taken (c.in_ok-at_end.ensures.end told2)
