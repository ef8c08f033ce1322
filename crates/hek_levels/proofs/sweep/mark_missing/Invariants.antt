use Rattle.std.proofs.Common.{◌≡◌, ℕ, ◌<◌, Some}
use Rattle.std.specs.HashMap.{get}
use Rattle.std.specs.Prelude.{◌==◌, slice_get}
use Rattle.hek_levels.specs.declared.certificate.Missing.{Missing}
use Rattle.hek_levels.specs.declared.certificate.Writer.TheVariants as writer
use Rattle.hek_levels.specs.Sweeps.{IsMarked, AreKept}
use Rattle.hek_levels.proofs.sweep.mark_missing.Given as goal

abbrev pub invariant-loop-n : goal.invariant-loop-n
invariant-loop-n l = record {
  kept : AreKept (get ◌==◌ l.initial.marked) (get ◌==◌ l.marked);
  there : (k x : ℕ) (one : Missing) → k < l.n → slice_get l.given k ≡ Some one → one.writer ≡ writer.Transaction x → IsMarked (get ◌==◌ l.marked) x;
}
