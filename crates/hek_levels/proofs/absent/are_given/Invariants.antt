use Rattle.std.proofs.Common.{◌≡◌, ◌<◌, ℕ, true, Some}
use Rattle.std.specs.Prelude.{slice_get, is_some}
use Rattle.hek_levels.specs.Absences.{given_in_map}
use Rattle.hek_levels.proofs.absent.are_given.Given as goal

abbrev pub invariant-loop-m : goal.invariant-loop-m
invariant-loop-m l = (q key : ℕ) → q < l.m → slice_get l.keys q ≡ Some key → is_some (given_in_map l.map l.n key) ≡ true
