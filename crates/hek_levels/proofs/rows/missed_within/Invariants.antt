use Rattle.std.proofs.Common.{ℕ}
use Rattle.std.specs.BTreeMap.Range.{entries_between}
use Rattle.std.specs.declared.ops.Bound.TheVariants.{Included, Excluded}
use Rattle.std.specs.Ordering.{nat_cmp}
use Rattle.hek_levels.specs.Logs.{misses}
use Rattle.hek_levels.proofs.Among.{IsNoted}
use Rattle.hek_levels.proofs.rows.missed_within.Given as goal

abbrev pub invariant-loop-key : goal.invariant-loop-key
invariant-loop-key l = IsNoted (λ (k : ℕ). misses l.scan k) (entries_between nat_cmp (Included l.from) (Excluded l.to) l.rows.entries) l.keys.items l.key-iterator
