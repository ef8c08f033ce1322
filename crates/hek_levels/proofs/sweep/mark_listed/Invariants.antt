use Rattle.std.proofs.Common.{◌≡◌, ℕ, ◌<◌}
use Rattle.std.specs.HashMap.{get}
use Rattle.std.specs.Prelude.{◌==◌}
use Rattle.hek_levels.specs.declared.log.Place.TheVariants.{Listed}
use Rattle.hek_levels.specs.declared.certificate.Writer.TheVariants as writer
use Rattle.hek_levels.specs.Explanations.{source_at}
use Rattle.hek_levels.specs.Sweeps.{IsMarked, AreKept}
use Rattle.hek_levels.proofs.sweep.mark_listed.Given as goal

abbrev pub invariant-loop-r : goal.invariant-loop-r
invariant-loop-r l = record {
  kept : AreKept (get ◌==◌ l.initial.marked) (get ◌==◌ l.marked);
  there : (k x : ℕ) → k < l.r → source_at l.certificate l.y (Listed k) ≡ writer.Transaction x → IsMarked (get ◌==◌ l.marked) x;
}
