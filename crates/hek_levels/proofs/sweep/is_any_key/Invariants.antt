use Rattle.std.proofs.Common.{◌≡◌, ℕ, ◌<◌, Some}
use Rattle.std.specs.HashMap.{get}
use Rattle.std.specs.Prelude.{◌==◌, slice_get}
use Rattle.hek_levels.specs.declared.log.Change.{Change}
use Rattle.hek_levels.specs.Sweeps.{IsMarked}
use Rattle.hek_levels.proofs.sweep.is_any_key.Given as goal

abbrev pub invariant-loop-n : goal.invariant-loop-n
invariant-loop-n l = (k : ℕ) (c : Change) → k < l.n → slice_get l.changes k ≡ Some c → IsMarked (get ◌==◌ l.keys) c.key → ⊥
