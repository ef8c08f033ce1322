use Rattle.std.proofs.Common.{◌≡◌, ◌<◌, ℕ, true, Some}
use Rattle.std.specs.Prelude.{slice_get}
use Rattle.hek_history.specs.Answers.{covers}
use Rattle.hek_history_levels.proofs.fitting.are_covered.Given as goal

abbrev pub invariant-loop-n : goal.invariant-loop-n
invariant-loop-n l = (i : ℕ) (p : ℕ × ℕ) → i < l.n → slice_get l.pairs i ≡ Some p → covers l.scope p.0 ≡ true
