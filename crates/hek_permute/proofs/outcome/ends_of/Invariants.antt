use Rattle.std.proofs.Common.{◌≡◌}
use Rattle.hek_permute.specs.Outcomes.{ends_upto}
use Rattle.hek_permute.proofs.outcome.ends_of.Given as goal

abbrev pub invariant-loop-place : goal.invariant-loop-place
invariant-loop-place l = l.ends.items ≡ ends_upto l.place l.history
