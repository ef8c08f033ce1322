-- Walks along the edges of a graph of numbers, and the victim of its cycles, stated without an algorithm.
-- (Section 4 of the paper: deadlock detection.)
use Rattle.std.specs.Prelude.{ℕ, ◌≡◌, ◌<◌, ◌≤◌, ◌⊎◌, Bool, List, [], ◌∷◌, ◌++◌, length, IsTrue}

-- a walk from x over these numbers: an edge leads from each to the next
abbrev pub Follows : (ℕ → ℕ → Bool) → ℕ → List ℕ → Type 0
Follows edge x [] = Unit {0}
Follows edge x (y ∷ ys) = IsTrue (edge x y) × Follows edge y ys

-- a walk: one or more numbers, an edge from each to the next
abbrev pub IsWalk : (ℕ → ℕ → Bool) → List ℕ → Type 0
IsWalk edge [] = ⊥
IsWalk edge (x ∷ xs) = Follows edge x xs

-- a walk that begins at u and whose last number has an edge back to u
abbrev pub IsClosedWalk : (ℕ → ℕ → Bool) → ℕ → List ℕ → Type 0
IsClosedWalk edge u [] = ⊥
IsClosedWalk edge u (x ∷ xs) = (x ≡ u) × IsWalk edge ((x ∷ xs) ++ u ∷ [])

-- xs is not after ys in the order of a dictionary, for lists of one length
abbrev pub IsNotAfter : List ℕ → List ℕ → Type 0
IsNotAfter [] ys = Unit {0}
IsNotAfter (x ∷ xs) [] = ⊥
IsNotAfter (x ∷ xs) (y ∷ ys) = (x < y) ⊎ ((x ≡ y) × IsNotAfter xs ys)

-- u is the greatest number on a closed walk; its cycle is the shortest closed walk from u, the least of equal length
pub record IsVictim (edge : ℕ → ℕ → Bool) (u : ℕ) (cycle : List ℕ) : Type 0 where
  pub closed : IsClosedWalk edge u cycle
  pub greatest : (v : ℕ) (walk : List ℕ) → IsClosedWalk edge v walk → v ≤ u
  pub shortest : (walk : List ℕ) → IsClosedWalk edge u walk → length cycle ≤ length walk
  pub least : (walk : List ℕ) → IsClosedWalk edge u walk → length walk ≡ length cycle → IsNotAfter cycle walk

-- each edge joins two numbers below n
pub record JoinsBelow (edge : ℕ → ℕ → Bool) (n : ℕ) : Type 0 where
  pub from : (u t : ℕ) → IsTrue (edge u t) → u < n
  pub to : (u t : ℕ) → IsTrue (edge u t) → t < n
