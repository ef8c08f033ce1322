use Rattle.std.proofs.Common.{ℕ, List, ◌∙◌, sym, ap, subst}
use Rattle.std.specs.HashMap.{get}
use Rattle.std.specs.Prelude.{◌==◌, ◌||◌, slice_get, is_some}
use Rattle.hek_levels.specs.declared.log.Change.{Change}
use Rattle.hek_levels.specs.Logs.{left_in}
use Rattle.hek_levels.specs.Places.{AreMissingSourced}
use Rattle.hek_levels.specs.Rows.{row_of}
use Rattle.hek_levels.specs.Seen.{At}
use Rattle.hek_levels.proofs.Orders.{same_at}
use Rattle.hek_levels.proofs.Touched.{touched-more}
use Rattle.hek_levels.proofs.absent.advance.Goals as goal

pub returns-clause-sourced : goal.returns-clause-sourced
returns-clause-sourced c is_so t a =
    let here : At c.args.certificate.now.order.items c.args.i c.in-Some.t = ap (λ (xs : List ℕ). slice_get xs c.args.i) (sym c.as_slice.ensures.value) ∙ sym c.in-Some.ensures in
    subst (λ (x : ℕ). AreMissingSourced c.args.log.now c.args.certificate.now (get ◌==◌ c.args.places.now) c.args.i x) (same_at c.args.certificate.now.order.items c.args.i c.in-Some.t t here a)
    (c.in_ok-are_missing_sourced_at.ensures c.if-not-branch.false)

pub returns-clause-touched : goal.returns-clause-touched
returns-clause-touched c is_so =
    let here : At c.args.certificate.now.order.items c.args.i c.in-Some.t = ap (λ (xs : List ℕ). slice_get xs c.args.i) (sym c.as_slice.ensures.value) ∙ sym c.in-Some.ensures in
    touched-more c.args.log.now c.args.certificate.now.order.items c.args.i c.in-Some.t (λ (k : ℕ). is_some (row_of c.args.touched.now k)) (λ (k : ℕ). is_some (row_of c.touch_all.new.touched k)) c.requires here
    (λ k. c.in_ok-touch_all.ensures k ∙ ap (λ (cs : List Change). is_some (left_in cs k) || is_some (row_of c.args.touched.now k)) c.writes_of.ensures)
