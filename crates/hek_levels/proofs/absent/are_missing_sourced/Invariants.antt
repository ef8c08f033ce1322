use Rattle.std.proofs.Common.{ℕ, ◌<◌}
use Rattle.std.specs.HashMap.{get}
use Rattle.std.specs.Prelude.{◌==◌, is_some}
use Rattle.hek_levels.specs.Places.{AreMissingSourced, AreTouched}
use Rattle.hek_levels.specs.Rows.{row_of}
use Rattle.hek_levels.specs.Seen.{At}
use Rattle.hek_levels.proofs.absent.are_missing_sourced.Given as goal

abbrev pub invariant-loop-i : goal.invariant-loop-i
invariant-loop-i l = record {
  sourced : (k : ℕ) → k < l.i → (t : ℕ) → At l.certificate.order.items k t → AreMissingSourced l.log l.certificate (get ◌==◌ l.places) k t;
  touched : AreTouched l.log l.certificate.order.items l.i (λ (key : ℕ). is_some (row_of l.touched key));
}
