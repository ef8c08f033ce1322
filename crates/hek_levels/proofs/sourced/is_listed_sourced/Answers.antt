use Rattle.std.proofs.Common.{subst}
use Rattle.std.specs.HashMap.{get}
use Rattle.std.specs.Prelude.{◌==◌}
use Rattle.hek_levels.specs.declared.certificate.Writer.{Writer}
use Rattle.hek_levels.specs.declared.log.Place.TheVariants.{Listed}
use Rattle.hek_levels.specs.Places.{IsSourcedBy}
use Rattle.hek_levels.proofs.sourced.is_listed_sourced.Goals as goal

pub returns : goal.returns
returns c is_so =
    subst (λ (w : Writer). IsSourcedBy c.args.log.now (get ◌==◌ c.args.places.now) c.args.i c.args.t (Listed c.args.r) w) c.listed_source-source.ensures (c.is_sourced.ensures is_so)
