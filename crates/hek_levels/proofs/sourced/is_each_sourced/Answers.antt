use Rattle.std.proofs.Common.{◌≤◌, ℕ, refl, ap, length, arith, below_more}
use Rattle.std.specs.HashMap.{get}
use Rattle.std.specs.Prelude.{◌==◌}
use Rattle.hek_levels.specs.declared.log.Place.TheVariants.{Listed}
use Rattle.hek_levels.specs.Explanations.{source_at}
use Rattle.hek_levels.specs.Places.{IsSourcedBy}
use Rattle.hek_levels.proofs.Marks.{read_within}
use Rattle.hek_levels.proofs.sourced.is_each_sourced.Goals as goal

pub loop-r-preserved : goal.loop-r-preserved
loop-r-preserved c =
    below_more (λ (q : ℕ). IsSourcedBy c.args.log.now (get ◌==◌ c.args.places.now) c.args.i c.args.t (Listed q) (source_at c.args.certificate.now c.args.t (Listed q))) c.loop-r.r c.loop-r.invariant
    (c.if-not-is_listed_sourced.ensures refl)

pub returns : goal.returns
returns c is_so q read there =
    let within = read_within c.args.log.now c.args.t q read there in
    let end : length c.reads_of-r-end.result.now ≤ c.loop-r.r = c.loop-r-test.false in
    let same = ap length c.reads_of-r-end.ensures in
    c.loop-r.invariant q (omega (arith, within, same, end)) read there
