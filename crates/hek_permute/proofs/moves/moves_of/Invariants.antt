use Rattle.std.proofs.Common.{ℕ, ◌≡◌, ◌+◌, Some, length}
use Rattle.std.specs.Prelude.{slice_get}
use Rattle.hek_permute.specs.Moves.{Work, work_in}
use Rattle.hek_permute.proofs.moves.moves_of.Given as goal

abbrev pub invariant-loop-place : goal.invariant-loop-place
invariant-loop-place l = (length l.moves.items ≡ l.place) × ((i : ℕ) (w : Work) → slice_get l.moves.items i ≡ Some w → w ≡ work_in l.schedule l.rules (i + 1))
