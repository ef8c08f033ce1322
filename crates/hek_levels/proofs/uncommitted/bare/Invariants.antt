use Rattle.std.proofs.Common.{◌≡◌, ◌<◌, ℕ, length}
use Rattle.std.specs.Prelude.{slice_get}
use Rattle.hek_levels.specs.Logs.{transaction}
use Rattle.hek_levels.specs.Uncommitted.{IsBareOf}
use Rattle.hek_levels.proofs.uncommitted.bare.Given as goal

abbrev pub invariant-loop-n : goal.invariant-loop-n
invariant-loop-n l = record {
  long : length l.transactions.items ≡ l.n;
  bare : (t : ℕ) → t < l.n → IsBareOf (transaction l.log t) (slice_get l.transactions.items t);
}
