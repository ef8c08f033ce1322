use Rattle.std.proofs.Common.{◌≡◌, ◌∙◌, Some, refl, sym, subst, arith}
use Rattle.std.specs.Prelude.{◌==◌}
use Rattle.std.specs.HashMap.{get}
use Rattle.std.proofs.lemmas.Option.{slice_get_read, slice_get_within}
use Rattle.hek_levels.specs.declared.log.Place.TheVariants as place
use Rattle.hek_levels.specs.declared.certificate.Missing.{Missing}
use Rattle.hek_levels.specs.declared.certificate.Writer.{Writer}
use Rattle.hek_levels.specs.Absences.{given_in_map}
use Rattle.hek_levels.specs.Places.{IsSourcedBy}
use Rattle.hek_levels.proofs.Turned.{one-same}
use Rattle.hek_levels.proofs.absent.is_right_at.Goals as goal

pub returns-in-Some : goal.returns-in-Some
returns-in-Some c is_so one w there is =
    let at = slice_get_read c.args.list.now _ c.args.n c.in-Some.one.now refl c.in-Some.ensures.lookup.3.0 c.in-Some.ensures.lookup.1 in
    let same : c.in-Some.one.now ≡ one = one-same c.in-Some.one.now one (sym at ∙ there) in
    subst
    (λ (m : Missing). (v : Writer) → given_in_map c.args.map.now m.scan m.key ≡ Some v → IsSourcedBy c.args.log.now (get ◌==◌ c.args.places.now) c.args.i c.args.t (place.Missing m.scan m.key) v) same (c.is_right.ensures is_so) w is

pub returns-in-None : goal.returns-in-None
returns-in-None c is_so one w there is =
    let lt = slice_get_within c.args.list.now c.args.n one there in
    let le = c.in-None.ensures.lookup.3 in
    absurd (omega (arith, lt, le))
