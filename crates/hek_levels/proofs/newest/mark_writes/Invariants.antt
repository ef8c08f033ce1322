use Rattle.std.proofs.Common.{◌≡◌, ℕ, cond, Some, drop}
use Rattle.std.specs.HashMap.{get}
use Rattle.std.specs.Prelude.{◌==◌, is_some}
use Rattle.hek_levels.specs.Logs.{left_in}
use Rattle.hek_levels.proofs.newest.mark_writes.Given as goal

abbrev pub invariant-loop-change : goal.invariant-loop-change
invariant-loop-change l =
    (k : ℕ) → cond (is_some (left_in (drop l.change-index l.changes) k)) (Some l.i) (get ◌==◌ l.last k)
    ≡ cond (is_some (left_in l.changes k)) (Some l.i) (get ◌==◌ l.initial.last k)
