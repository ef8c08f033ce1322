use Rattle.std.proofs.Common.{◌≡◌, ◌<◌, ℕ, true, Some, ◌⊎◌}
use Rattle.std.specs.HashMap.{get, keys}
use Rattle.std.specs.Prelude.{◌==◌}
use Rattle.hek_levels.specs.Logs.{does_write}
use Rattle.hek_levels.proofs.Among.{IsIn}
use Rattle.hek_levels.proofs.newest.are_apart.Given as goal

abbrev pub invariant-loop-x : goal.invariant-loop-x
invariant-loop-x l = (y : ℕ) → IsIn (keys l.marked) y → (does_write l.log y l.key ≡ true → (j : ℕ) → get ◌==◌ l.places y ≡ Some j → j < l.low) ⊎ IsIn l.x-iterator y
