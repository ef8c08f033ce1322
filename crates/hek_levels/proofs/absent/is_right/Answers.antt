use Rattle.std.proofs.Common.{◌≡◌, ◌∙◌, subst}
use Rattle.std.specs.Prelude.{◌==◌}
use Rattle.std.specs.HashMap.{get}
use Rattle.hek_levels.specs.declared.log.Place.TheVariants as place
use Rattle.hek_levels.specs.declared.certificate.Writer.{Writer}
use Rattle.hek_levels.specs.Places.{IsSourcedBy}
use Rattle.hek_levels.proofs.Turned.{one-same}
use Rattle.hek_levels.proofs.absent.is_right.Goals as goal

pub returns-in-Some : goal.returns-in-Some
returns-in-Some c is_so w is =
    let same : c.in-Some.source ≡ w = one-same c.in-Some.source w (c.in-Some.ensures ∙ is) in
    subst (λ (v : Writer). IsSourcedBy c.args.log.now (get ◌==◌ c.args.places.now) c.args.i c.args.t (place.Missing c.args.one.scan c.args.one.key) v) same (c.is_sourced.ensures is_so)
