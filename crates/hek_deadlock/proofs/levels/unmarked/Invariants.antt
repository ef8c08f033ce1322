use Rattle.std.proofs.Common.{◌≡◌, ℕ, vec_len, None}
use Rattle.hek_deadlock.specs.Rows.{level_at}
use Rattle.hek_deadlock.proofs.levels.unmarked.Given as goal

abbrev pub invariant-loop-i : goal.invariant-loop-i
invariant-loop-i l = record {
  long : vec_len l.levels ≡ l._i;
  none : (x : ℕ) → level_at l.levels.items x ≡ None;
}
