use Rattle.std.proofs.Common.{ℕ}
use Rattle.hek_levels.specs.Logs.{misses}
use Rattle.hek_levels.proofs.Among.{IsNoted}
use Rattle.hek_levels.proofs.rows.missed_anywhere.Given as goal

abbrev pub invariant-loop-key : goal.invariant-loop-key
invariant-loop-key l = IsNoted (λ (k : ℕ). misses l.scan k) l.rows.entries l.keys.items l.key-iterator
