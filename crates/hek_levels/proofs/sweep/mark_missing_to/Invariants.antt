use Rattle.std.proofs.Common.{◌≡◌, ℕ, ◌<◌, ◌≤◌, Some}
use Rattle.std.specs.HashMap.{get}
use Rattle.std.specs.Prelude.{◌==◌, slice_get}
use Rattle.hek_levels.specs.declared.log.Read.{Read}
use Rattle.hek_levels.specs.declared.log.Place.TheVariants as place
use Rattle.hek_levels.specs.declared.certificate.Missing.{Missing}
use Rattle.hek_levels.specs.declared.certificate.Writer.TheVariants as writer
use Rattle.hek_levels.specs.Logs.{read_at}
use Rattle.hek_levels.specs.Sweeps.{IsMarked, AreKept}
use Rattle.hek_levels.proofs.sweep.mark_missing_to.Given as goal

abbrev pub invariant-loop-m : goal.invariant-loop-m
invariant-loop-m l = record {
  kept : AreKept (get ◌==◌ l.initial.marked) (get ◌==◌ l.marked);
  there : (k : ℕ) → k < l.m → (x : ℕ) (one : Missing) (read : Read) → slice_get l.given k ≡ Some one → read_at l.log l.t (place.Missing one.scan one.key) ≡ Some read → read.operation ≤ l.n →
      one.writer ≡ writer.Transaction x → IsMarked (get ◌==◌ l.marked) x;
}
