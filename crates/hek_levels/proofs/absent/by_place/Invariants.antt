use Rattle.std.proofs.Common.{◌≡◌, ℕ, drop}
use Rattle.hek_levels.specs.Absences.{given_in_map}
use Rattle.hek_levels.specs.Explanations.{given_at}
use Rattle.hek_levels.proofs.Givens.{given_else}
use Rattle.hek_levels.proofs.absent.by_place.Given as goal

abbrev pub invariant-loop-one : goal.invariant-loop-one
invariant-loop-one l = (s k : ℕ) → given_else (given_in_map l.map s k) (given_at (drop l.one-index l.list) s k) ≡ given_at l.list s k
