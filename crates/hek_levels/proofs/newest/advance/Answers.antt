use Rattle.std.proofs.Common.{◌∙◌, ◌≡◌, ℕ, List, Some, cond, sym, ap, subst}
use Rattle.std.specs.HashMap.{get}
use Rattle.std.specs.Prelude.{◌==◌, slice_get, is_some}
use Rattle.hek_levels.specs.declared.log.Change.{Change}
use Rattle.hek_levels.specs.declared.log.Place.TheVariants as place
use Rattle.hek_levels.specs.declared.certificate.Missing.{Missing}
use Rattle.hek_levels.specs.Explanations.{explanation, given_of}
use Rattle.hek_levels.specs.Levels.{asked_of}
use Rattle.hek_levels.specs.Logs.{left_in}
use Rattle.hek_levels.specs.Seen.{At}
use Rattle.hek_levels.specs.Sweeps.{IsNewestAt}
use Rattle.hek_levels.proofs.Orders.{same_at}
use Rattle.hek_levels.proofs.Lasts.{last_more}
use Rattle.hek_levels.proofs.newest.advance.Goals as goal

pub returns-clause-listed : goal.returns-clause-listed
returns-clause-listed c is_so t r a =
    let here : At c.args.certificate.now.order.items c.args.i c.in-Some.t = ap (λ (xs : List ℕ). slice_get xs c.args.i) (sym c.as_slice.ensures.value) ∙ sym c.in-Some.ensures in
    subst (λ (x : ℕ). IsNewestAt (asked_of c.args.asked.now x) c.args.log.now (explanation c.args.certificate.now) x (place.Listed r)) (same_at c.args.certificate.now.order.items c.args.i c.in-Some.t t here a)
    (c.in_ok-is_each_newest.ensures c.if-not-branch.false r)

pub returns-clause-given : goal.returns-clause-given
returns-clause-given c is_so t n one a there =
    let here : At c.args.certificate.now.order.items c.args.i c.in-Some.t = ap (λ (xs : List ℕ). slice_get xs c.args.i) (sym c.as_slice.ensures.value) ∙ sym c.in-Some.ensures in
    subst
    (λ (x : ℕ).
    (m : ℕ) (given : Missing) → slice_get (given_of c.args.certificate.now x) m ≡ Some given →
    IsNewestAt (asked_of c.args.asked.now x) c.args.log.now (explanation c.args.certificate.now) x (place.Missing given.scan given.key)) (same_at c.args.certificate.now.order.items c.args.i c.in-Some.t t here a)
    (c.in_ok-is_each_given_newest.ensures c.if-not-branch-2.false) n one there

pub returns-clause-last : goal.returns-clause-last
returns-clause-last c is_so =
    let here : At c.args.certificate.now.order.items c.args.i c.in-Some.t = ap (λ (xs : List ℕ). slice_get xs c.args.i) (sym c.as_slice.ensures.value) ∙ sym c.in-Some.ensures in
    last_more c.args.log.now c.args.certificate.now.order.items c.args.i c.in-Some.t (get ◌==◌ c.args.last.now) (get ◌==◌ c.mark_writes.new.last) c.requires.last here
    (λ k. c.in_ok-mark_writes.ensures k ∙ ap (λ (cs : List Change). cond (is_some (left_in cs k)) (Some c.args.i) (get ◌==◌ c.args.last.now k)) c.writes_of.ensures)
