use Rattle.std.proofs.Common.{◌≡◌, ◌≤◌, ℕ, None, Some, length}
use Rattle.std.specs.Prelude.{slice_get}
use Rattle.hek_levels_refutation.specs.declared.claim.Shown.{Shown}
use Rattle.hek_levels_refutation.proofs.refutation.last_assumed.Given as goal

abbrev pub invariant-loop-n : goal.invariant-loop-n
invariant-loop-n l = record {
  within : l.n ≤ length l.shown;
  none : (k : ℕ) (s : Shown) → l.n ≤ k → slice_get l.shown k ≡ Some s → s.contrary ≡ None;
}

abbrev pub decreases-loop-n : goal.decreases-loop-n
decreases-loop-n l = l.n
