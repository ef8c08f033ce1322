use Rattle.std.proofs.Common.{◌≡◌, ◌<◌, ℕ, suc, Some}
use Rattle.std.specs.Prelude.{slice_get}
use Rattle.hek_history_levels.proofs.fitting.is_rising.Given as goal

abbrev pub invariant-loop-n : goal.invariant-loop-n
invariant-loop-n l = (k : ℕ) (p q : ℕ × ℕ) → suc k < l.n → slice_get l.pairs k ≡ Some p → slice_get l.pairs (suc k) ≡ Some q → p.0 < q.0
