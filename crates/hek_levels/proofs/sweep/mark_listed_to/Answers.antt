use Rattle.std.proofs.Common.{◌≡◌, ℕ, ◌≤◌, Some, ap, length, arith, below_more}
use Rattle.std.specs.HashMap.{get}
use Rattle.std.specs.Prelude.{◌==◌}
use Rattle.hek_levels.specs.declared.log.Read.{Read}
use Rattle.hek_levels.specs.declared.log.Place.TheVariants.{Listed}
use Rattle.hek_levels.specs.declared.certificate.Writer.TheVariants as writer
use Rattle.hek_levels.specs.Logs.{read_at}
use Rattle.hek_levels.specs.Explanations.{source_at}
use Rattle.hek_levels.specs.Sweeps.{IsMarked}
use Rattle.hek_levels.proofs.Marks.{read_within}
use Rattle.hek_levels.proofs.sweep.mark_listed_to.Goals as goal

pub loop-q-preserved : goal.loop-q-preserved
loop-q-preserved c = record {
  kept = (λ x m. c.in_ok-mark_to.ensures.kept x (c.loop-q.invariant.kept x m));
  there =
      below_more
      (λ (k : ℕ).
      (x : ℕ) (read : Read) → read_at c.args.log.now c.args.t (Listed k) ≡ Some read → read.operation ≤ c.args.n → source_at c.args.certificate.now c.args.t (Listed k) ≡ writer.Transaction x →
      IsMarked (get ◌==◌ c.mark_to.new.marked) x)
      c.loop-q.q (λ k l x read a b d. c.in_ok-mark_to.ensures.kept x (c.loop-q.invariant.there k l x read a b d)) c.in_ok-mark_to.ensures.there;
}

pub returns-clause-there : goal.returns-clause-there
returns-clause-there c r x read there at is =
    let within = read_within c.args.log.now c.args.t r read there in
    let end : length c.reads_of-q-end.result.now ≤ c.loop-q.q = c.loop-q-test.false in
    let same = ap length c.reads_of-q-end.ensures in
    c.loop-q.invariant.there r (omega (arith, within, same, end)) x read there at is
