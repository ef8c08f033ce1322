use Rattle.std.proofs.Common.{◌≡◌, ℕ, List, ap, ◌∙◌, subst}
use Rattle.std.specs.HashMap.{get}
use Rattle.std.specs.Prelude.{◌==◌, slice_get}
use Rattle.hek_levels.specs.declared.log.Place.TheVariants.{Listed}
use Rattle.hek_levels.specs.Explanations.{source_at}
use Rattle.hek_levels.specs.Places.{IsSourcedBy}
use Rattle.hek_levels.proofs.Orders.{some_is}
use Rattle.hek_levels.proofs.sourced.is_sourced_at.Goals as goal

pub returns-in-Some : goal.returns-in-Some
returns-in-Some c is_so t r a =
    let same : c.in-Some.t ≡ t = some_is c.in-Some.t t (c.in-Some.ensures ∙ ap (λ (xs : List ℕ). slice_get xs c.args.i) c.as_slice.ensures.value ∙ a) in
    subst (λ (x : ℕ). IsSourcedBy c.args.log.now (get ◌==◌ c.args.places.now) c.args.i x (Listed r) (source_at c.args.certificate.now x (Listed r))) same (c.is_each_sourced.ensures is_so r)
