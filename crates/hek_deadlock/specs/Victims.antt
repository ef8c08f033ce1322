-- The victim in terms of walks: what an answer means, and the same of the victim of any world.
use Rattle.std.specs.Prelude.{ℕ, ◌≡◌, ◌↔◌, Bool, List, Option, Some, None}
use Rattle.hek_rules.specs.Cycles.{IsClosedWalk, IsVictim}
use Rattle.hek_rules.specs.WaitGraph.{is_edge, victim}
use Rattle.hek_rules.specs.World.{World}

abbrev pub HasNoClosedWalk : (ℕ → ℕ → Bool) → Type 0
HasNoClosedWalk edge = (u : ℕ) (walk : List ℕ) → IsClosedWalk edge u walk → ⊥

-- an answer: a victim with its cycle, or none if no walk is closed
abbrev pub IsVictimOrNone : (ℕ → ℕ → Bool) → Option (ℕ × List ℕ) → Type 0
IsVictimOrNone edge None = HasNoClosedWalk edge
IsVictimOrNone edge (Some found) = IsVictim edge found.0 found.1

abbrev pub VictimIsOfWalks : Type 0
VictimIsOfWalks = (w : World) (u : ℕ) (cycle : List ℕ) → (victim w ≡ Some (u, cycle)) ↔ IsVictim (is_edge w) u cycle

abbrev pub NoneIsOfWalks : Type 0
NoneIsOfWalks = (w : World) → (victim w ≡ None) ↔ HasNoClosedWalk (is_edge w)
