use Rattle.std.proofs.Common.{◌≡◌, ◌<◌, ℕ, true}
use Rattle.hek_levels.specs.Logs.{is_committed}
use Rattle.hek_levels.specs.Uncommitted.{AreFoundBy}
use Rattle.hek_levels.proofs.uncommitted.find_lost.Given as goal

abbrev pub invariant-loop-t : goal.invariant-loop-t
invariant-loop-t l = (x : ℕ) → x < l.t → is_committed l.log x ≡ true → AreFoundBy l.log x
