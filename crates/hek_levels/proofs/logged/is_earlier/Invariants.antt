use Rattle.std.proofs.Common.{◌≡◌, ℕ, ◌<◌, false, Some}
use Rattle.std.specs.Prelude.{slice_get}
use Rattle.std.specs.List.{list_any}
use Rattle.hek_levels.specs.declared.log.Turn.{Turn}
use Rattle.hek_levels.specs.Logs.{is_seen_turn}
use Rattle.hek_levels.proofs.logged.is_earlier.Given as goal

abbrev pub invariant-loop-n : goal.invariant-loop-n
invariant-loop-n l = (k : ℕ) (a : Turn) → k < l.n → slice_get l.turns k ≡ Some a → list_any (λ (b : Turn). is_seen_turn a b) l.others ≡ false
