use Rattle.std.proofs.Common.{◌≡◌, ◌≤◌, ℕ, Some, subst, sym}
use Rattle.std.specs.HashMap.{get}
use Rattle.std.specs.Prelude.{◌==◌}
use Rattle.hek_levels.specs.declared.certificate.Missing.{Missing}
use Rattle.hek_levels.specs.declared.certificate.Writer.TheVariants as writer
use Rattle.hek_levels.specs.declared.log.Read.{Read}
use Rattle.hek_levels.specs.declared.log.Place.TheVariants as place
use Rattle.hek_levels.specs.Explanations.{given_of}
use Rattle.hek_levels.specs.Logs.{read_at}
use Rattle.hek_levels.specs.Sweeps.{IsMarked}
use Rattle.hek_levels.proofs.Givens.{given-at}
use Rattle.hek_levels.proofs.Turned.{element-more, element-all}
use Rattle.hek_levels.proofs.sweep.mark_missing_to.Goals as goal

pub loop-m-preserved : goal.loop-m-preserved
loop-m-preserved c = record {
  kept = (λ x m. c.in_ok-mark_given_to.ensures.kept x (c.loop-m.invariant.kept x m));
  there = (λ k l x one read there at le is.
      element-more
      (λ (given : Missing).
      (y : ℕ) (r : Read) → read_at c.args.log.now c.args.t (place.Missing given.scan given.key) ≡ Some r → r.operation ≤ c.args.n → given.writer ≡ writer.Transaction y → IsMarked (get ◌==◌ c.mark_given_to.new.marked) y)
      c.missing_of-given.result.now c.loop-m.m
      (λ j given less here y r a b w. c.in_ok-mark_given_to.ensures.kept y (c.loop-m.invariant.there j less y given r here a b w))
      (λ given here y r a b w. c.in_ok-mark_given_to.ensures.there y given r here a b w) k one l there x read at le is);
}

pub returns-clause-there : goal.returns-clause-there
returns-clause-there c s key x read at le is =
    let f = given-at (given_of c.args.certificate.now c.args.t) s key (writer.Transaction x) is in
    let first = subst (λ (n : ℕ). read_at c.args.log.now c.args.t (place.Missing n key) ≡ Some read) (sym f.3) at in
    let second = subst (λ (n : ℕ). read_at c.args.log.now c.args.t (place.Missing f.1.scan n) ≡ Some read) (sym f.4) first in
    element-all
    (λ (given : Missing).
    (y : ℕ) (r : Read) → read_at c.args.log.now c.args.t (place.Missing given.scan given.key) ≡ Some r → r.operation ≤ c.args.n → given.writer ≡ writer.Transaction y → IsMarked (get ◌==◌ c.loop-m.marked) y)
    c.missing_of-given.result.now (given_of c.args.certificate.now c.args.t) c.loop-m.m c.missing_of-given.ensures c.loop-m-test.false
    (λ j given less here y r a b w. c.loop-m.invariant.there j less y given r here a b w) f.0 f.1 f.2 x read second le f.5
