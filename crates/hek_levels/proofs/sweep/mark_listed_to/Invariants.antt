use Rattle.std.proofs.Common.{◌≡◌, ℕ, ◌<◌, ◌≤◌, Some}
use Rattle.std.specs.HashMap.{get}
use Rattle.std.specs.Prelude.{◌==◌}
use Rattle.hek_levels.specs.declared.log.Read.{Read}
use Rattle.hek_levels.specs.declared.log.Place.TheVariants.{Listed}
use Rattle.hek_levels.specs.declared.certificate.Writer.TheVariants as writer
use Rattle.hek_levels.specs.Logs.{read_at}
use Rattle.hek_levels.specs.Explanations.{source_at}
use Rattle.hek_levels.specs.Sweeps.{IsMarked, AreKept}
use Rattle.hek_levels.proofs.sweep.mark_listed_to.Given as goal

abbrev pub invariant-loop-q : goal.invariant-loop-q
invariant-loop-q l = record {
  kept : AreKept (get ◌==◌ l.initial.marked) (get ◌==◌ l.marked);
  there : (k : ℕ) → k < l.q → (x : ℕ) (read : Read) → read_at l.log l.t (Listed k) ≡ Some read → read.operation ≤ l.n →
      source_at l.certificate l.t (Listed k) ≡ writer.Transaction x → IsMarked (get ◌==◌ l.marked) x;
}
