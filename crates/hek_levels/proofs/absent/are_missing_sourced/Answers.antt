use Rattle.std.proofs.Common.{ℕ, arith, below_more}
use Rattle.std.specs.Prelude.{◌==◌}
use Rattle.std.specs.HashMap.{get}
use Rattle.std.proofs.lemmas.Option.{slice_get_within}
use Rattle.hek_levels.specs.Seen.{At}
use Rattle.hek_levels.specs.Places.{AreMissingSourced}
use Rattle.hek_levels.proofs.absent.are_missing_sourced.Goals as goal

pub loop-i-preserved : goal.loop-i-preserved
loop-i-preserved c = record {
  sourced =
      below_more (λ (k : ℕ). (t : ℕ) → At c.args.certificate.now.order.items k t → AreMissingSourced c.args.log.now c.args.certificate.now (get ◌==◌ c.args.places.now) k t) c.loop-i.i c.loop-i.invariant.sourced
      (c.in_ok-advance.ensures.sourced c.if-not-branch.false);
  touched = c.in_ok-advance.ensures.touched c.if-not-branch.false;
}

pub returns : goal.returns
returns c is_so i t a =
    let within = slice_get_within c.args.certificate.now.order.items i t a in
    c.loop-i.invariant.sourced i (omega (arith, within, c.loop-i-test.false, c.len-i-end.ensures)) t a
