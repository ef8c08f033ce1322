use Rattle.std.proofs.Common.{◌≡◌, ℕ, ◌<◌, true, Some}
use Rattle.std.specs.HashMap.{get}
use Rattle.std.specs.Prelude.{◌==◌, slice_get}
use Rattle.hek_levels.specs.declared.log.Turn.{Turn}
use Rattle.hek_levels.specs.Sweeps.{IsFrom, AreRaised}
use Rattle.hek_levels.proofs.sweep.show_turns.Given as goal

abbrev pub invariant-loop-n : goal.invariant-loop-n
invariant-loop-n l = record {
  raised : AreRaised (get ◌==◌ l.initial.lanes) (get ◌==◌ l.lanes);
  there : (k : ℕ) (turn : Turn) → k < l.n → slice_get l.turns k ≡ Some turn → turn.seen ≡ true → IsFrom (get ◌==◌ l.lanes) turn.lane turn.first;
}
