use Rattle.std.proofs.Common.{◌≡◌, ℕ, ◌<◌, ◌≤◌, Some}
use Rattle.std.specs.HashMap.{get}
use Rattle.std.specs.Prelude.{◌==◌, slice_get}
use Rattle.hek_levels.specs.declared.log.Turn.{Turn}
use Rattle.hek_levels.proofs.turns.have_come.Given as goal

abbrev pub invariant-loop-n : goal.invariant-loop-n
invariant-loop-n l = (k m : ℕ) (turn : Turn) → k < l.n → slice_get l.turns k ≡ Some turn → get ◌==◌ l.latest turn.lane ≡ Some m → m ≤ turn.last
