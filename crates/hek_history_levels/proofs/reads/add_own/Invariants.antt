use Rattle.std.proofs.Common.{◌≡◌, ◌==◌, ℕ, true, take}
use Rattle.std.specs.Prelude.{is_some, ◌||◌}
use Rattle.std.specs.List.{list_any}
use Rattle.hek_history.specs.Answers.{covers}
use Rattle.hek_levels.specs.Logs.{left_in}
use Rattle.hek_history_levels.proofs.reads.add_own.Given as goal

abbrev pub invariant-loop-i : goal.invariant-loop-i
invariant-loop-i l =
    (key : ℕ) → covers l.scope key ≡ true → list_any (λ (k : ℕ). k == key) l.keys.items ≡ (list_any (λ (k : ℕ). k == key) l.initial.keys.items || is_some (left_in (take l.i l.writes) key))
