use Rattle.std.proofs.Common.{◌≡◌, ◌<◌, ℕ, true, Option, Some}
use Rattle.std.specs.Prelude.{slice_get}
use Rattle.hek_history.specs.Answers.{allows}
use Rattle.hek_levels.specs.declared.log.Change.{Change}
use Rattle.hek_history_levels.specs.Taking.{own_left}
use Rattle.hek_history_levels.proofs.fitting.agrees_at_each.Given as goal

abbrev pub invariant-loop-n : goal.invariant-loop-n
invariant-loop-n l = (i : ℕ) (c : Change) → i < l.n → slice_get l.writes i ≡ Some c → (v : Option ℕ) → own_left l.own c.key ≡ Some v → allows l.lenient c.key l.operation v ≡ true
