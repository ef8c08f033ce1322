use Rattle.std.proofs.Common.{◌≡◌, ℕ}
use Rattle.std.specs.HashMap.{get}
use Rattle.std.specs.Prelude.{◌==◌}
use Rattle.hek_levels.specs.declared.certificate.Missing.{Missing}
use Rattle.hek_levels.specs.declared.certificate.Writer.TheVariants as writer
use Rattle.hek_levels.specs.Explanations.{given_of}
use Rattle.hek_levels.specs.Sweeps.{IsMarked}
use Rattle.hek_levels.proofs.Givens.{given-at}
use Rattle.hek_levels.proofs.Turned.{element-more, element-all}
use Rattle.hek_levels.proofs.sweep.mark_missing.Goals as goal

pub loop-n-preserved : goal.loop-n-preserved
loop-n-preserved c = record {
  kept = (λ x m. c.in_ok-mark_given.ensures.kept x (c.loop-n.invariant.kept x m));
  there = (λ k x one l there is.
      element-more (λ (given : Missing). (y : ℕ) → given.writer ≡ writer.Transaction y → IsMarked (get ◌==◌ c.mark_given.new.marked) y) c.missing_of-given.result.now c.loop-n.n
      (λ j given less at y w. c.in_ok-mark_given.ensures.kept y (c.loop-n.invariant.there j y given less at w)) (λ given at y w. c.in_ok-mark_given.ensures.there given y at w) k one l there x is);
}

pub returns-clause-there : goal.returns-clause-there
returns-clause-there c s key x is =
    let f = given-at (given_of c.args.certificate.now c.args.y) s key (writer.Transaction x) is in
    element-all (λ (given : Missing). (y : ℕ) → given.writer ≡ writer.Transaction y → IsMarked (get ◌==◌ c.loop-n.marked) y) c.missing_of-given.result.now (given_of c.args.certificate.now c.args.y) c.loop-n.n
    c.missing_of-given.ensures c.loop-n-test.false (λ j given less at y w. c.loop-n.invariant.there j y given less at w) f.0 f.1 f.2 x f.5
