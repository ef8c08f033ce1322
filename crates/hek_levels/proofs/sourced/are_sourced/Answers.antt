use Rattle.std.proofs.Common.{ℕ, refl, arith, below_more}
use Rattle.std.specs.HashMap.{get}
use Rattle.std.specs.Prelude.{◌==◌}
use Rattle.std.proofs.lemmas.Option.{slice_get_within}
use Rattle.hek_levels.specs.declared.log.Place.TheVariants.{Listed}
use Rattle.hek_levels.specs.Explanations.{source_at}
use Rattle.hek_levels.specs.Places.{IsSourcedBy}
use Rattle.hek_levels.specs.Seen.{At}
use Rattle.hek_levels.proofs.sourced.are_sourced.Goals as goal

pub loop-i-preserved : goal.loop-i-preserved
loop-i-preserved c =
    below_more
    (λ (k : ℕ). (t r : ℕ) → At c.args.certificate.now.order.items k t → IsSourcedBy c.args.log.now (get ◌==◌ c.args.places.now) k t (Listed r) (source_at c.args.certificate.now t (Listed r))) c.loop-i.i c.loop-i.invariant
    (c.if-not-is_sourced_at.ensures refl)

pub returns : goal.returns
returns c is_so i t r a =
    let within = slice_get_within c.args.certificate.now.order.items i t a in
    c.loop-i.invariant i (omega (arith, within, c.loop-i-test.false, c.len-i-end.ensures)) t r a
