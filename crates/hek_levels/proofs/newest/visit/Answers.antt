use Rattle.std.proofs.Common.{ℕ, List, sym, ap, ◌∙◌}
use Rattle.std.specs.HashMap.{get}
use Rattle.std.specs.Prelude.{◌==◌, slice_get}
use Rattle.std.proofs.lemmas.Bool.{false≢true}
use Rattle.hek_levels.specs.Seen.{At}
use Rattle.hek_levels.specs.Explanations.{explanation}
use Rattle.hek_levels.proofs.Swept.{swept_by, swept_more}
use Rattle.hek_levels.proofs.newest.visit.Goals as goal

pub returns-then-not-may_see : goal.returns-then-not-may_see
returns-then-not-may_see c yes' =
    let e = explanation c.args.certificate.now in
    let a : At c.args.certificate.now.order.items c.args.p c.in-Some.y = ap (λ (xs : List ℕ). slice_get xs c.args.p) (sym c.as_slice.ensures.value) ∙ sym c.in-Some.ensures in
    swept_by c.args.rules c.args.log.now e c.requires.ordered c.args.t c.args.n c.args.key c.requires.takes c.args.p c.in-Some.y a
    (get ◌==◌ c.args.sight.now.marked) (get ◌==◌ c.args.sight.now.lanes) (get ◌==◌ c.args.sight.now.keys) (get ◌==◌ c.carry.new.marked) c.args.sight.now.is_any c.requires.swept c.in_ok-carry.ensures.kept
    c.in_ok-carry.ensures.there (λ m. false≢true (c.if-not-may_see.ensures m))

pub returns : goal.returns
returns c yes' =
    let e = explanation c.args.certificate.now in
    let a : At c.args.certificate.now.order.items c.args.p c.in-Some.y = ap (λ (xs : List ℕ). slice_get xs c.args.p) (sym c.as_slice.ensures.value) ∙ sym c.in-Some.ensures in
    swept_more c.args.rules c.args.log.now e c.requires.ordered c.args.t c.args.n c.args.key c.requires.takes c.args.p c.in-Some.y a
    (get ◌==◌ c.args.sight.now.marked) (get ◌==◌ c.args.sight.now.lanes) (get ◌==◌ c.args.sight.now.keys) (get ◌==◌ c.carry.new.marked) c.args.sight.now.is_any c.requires.swept c.in_ok-carry.ensures.kept
    c.in_ok-carry.ensures.there (sym c.if-does_write.ensures) (get ◌==◌ c.show.new.sight.marked) (get ◌==◌ c.show.new.sight.lanes) (get ◌==◌ c.show.new.sight.keys) c.show.new.sight.is_any
    c.in_ok-show.ensures.marked c.in_ok-show.ensures.lanes c.in_ok-show.ensures.keys c.in_ok-show.ensures.shown
