use Rattle.std.proofs.Common.{◌≡◌, ℕ, ◌<◌, false, Some}
use Rattle.std.specs.Prelude.{slice_get}
use Rattle.hek_levels.specs.declared.log.Change.{Change}
use Rattle.hek_levels.specs.Logs.{does_write}
use Rattle.hek_levels.proofs.sweep.share_key.Given as goal

abbrev pub invariant-loop-n : goal.invariant-loop-n
invariant-loop-n l = (k : ℕ) (c : Change) → k < l.n → slice_get l.changes k ≡ Some c → does_write l.log l.y c.key ≡ false
