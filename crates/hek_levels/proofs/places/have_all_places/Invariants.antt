use Rattle.std.proofs.Common.{◌≡◌, ℕ, ◌<◌, true, None}
use Rattle.std.specs.HashMap.{get}
use Rattle.std.specs.Prelude.{◌==◌}
use Rattle.hek_levels.specs.Logs.{is_committed}
use Rattle.hek_levels.proofs.places.have_all_places.Given as goal

abbrev pub invariant-loop-t : goal.invariant-loop-t
invariant-loop-t l = (t : ℕ) → t < l.t → is_committed l.log t ≡ true → get ◌==◌ l.places t ≡ None → ⊥
