use Rattle.std.proofs.Common.{◌≡◌, ℕ, ◌<◌, Some}
use Rattle.std.specs.HashMap.{get}
use Rattle.std.specs.Prelude.{◌==◌, slice_get}
use Rattle.hek_levels.specs.declared.log.Turn.{Turn}
use Rattle.hek_levels.specs.Sweeps.{IsFrom, AreRaised}
use Rattle.hek_levels.proofs.turns.begin_all.Given as goal

abbrev pub invariant-loop-n : goal.invariant-loop-n
invariant-loop-n l = record {
  raised : AreRaised (get ◌==◌ l.initial.latest) (get ◌==◌ l.latest);
  there : (k : ℕ) (turn : Turn) → k < l.n → slice_get l.turns k ≡ Some turn → IsFrom (get ◌==◌ l.latest) turn.lane turn.first;
}
