use Rattle.std.proofs.Common.{◌≡◌, ℕ, ◌<◌, false, Some}
use Rattle.std.specs.Prelude.{slice_get}
use Rattle.hek_levels.specs.declared.log.Turn.{Turn}
use Rattle.hek_levels.proofs.logged.has_seen_turns.Given as goal

abbrev pub invariant-loop-n : goal.invariant-loop-n
invariant-loop-n l = (k : ℕ) (turn : Turn) → k < l.n → slice_get l.turns k ≡ Some turn → turn.seen ≡ false
