use Rattle.std.proofs.Common.{◌≡◌, ℕ, Some, ◌∙◌, refl, ap, subst}
use Rattle.std.specs.HashMap.{get}
use Rattle.std.specs.Prelude.{◌==◌}
use Rattle.hek_levels.specs.declared.log.Place.TheVariants as place
use Rattle.hek_levels.specs.declared.certificate.Missing.{Missing}
use Rattle.hek_levels.specs.declared.certificate.Writer.{Writer}
use Rattle.hek_levels.specs.Absences.{given_in_map}
use Rattle.hek_levels.specs.Places.{IsSourcedBy}
use Rattle.hek_levels.proofs.Givens.{given-at}
use Rattle.hek_levels.proofs.Turned.{element-more, element-all}
use Rattle.hek_levels.proofs.absent.are_right.Goals as goal

pub loop-n-preserved : goal.loop-n-preserved
loop-n-preserved c =
    element-more
    (λ (one : Missing). (w : Writer) → given_in_map c.args.map.now one.scan one.key ≡ Some w → IsSourcedBy c.args.log.now (get ◌==◌ c.args.places.now) c.args.i c.args.t (place.Missing one.scan one.key) w) c.args.list.now c.loop-n.n
    c.loop-n.invariant (λ one there w is. c.if-not-is_right_at.ensures refl one w there is)

pub returns : goal.returns
returns c is_so s k w is =
    let f = given-at c.args.list.now s k w is in
    let there : given_in_map c.args.map.now f.1.scan f.1.key ≡ Some w =
    ap (λ (n : ℕ). given_in_map c.args.map.now n f.1.key) f.3 ∙ ap (λ (n : ℕ). given_in_map c.args.map.now s n) f.4 ∙ c.requires s k ∙ is in
    let right =
    element-all
    (λ (one : Missing). (v : Writer) → given_in_map c.args.map.now one.scan one.key ≡ Some v → IsSourcedBy c.args.log.now (get ◌==◌ c.args.places.now) c.args.i c.args.t (place.Missing one.scan one.key) v) c.args.list.now c.args.list.now c.loop-n.n
    refl c.loop-n-test.false c.loop-n.invariant f.0 f.1 f.2 w there in
    subst (λ (n : ℕ). IsSourcedBy c.args.log.now (get ◌==◌ c.args.places.now) c.args.i c.args.t (place.Missing s n) w) f.4
    (subst (λ (n : ℕ). IsSourcedBy c.args.log.now (get ◌==◌ c.args.places.now) c.args.i c.args.t (place.Missing n f.1.key) w) f.3 right)
