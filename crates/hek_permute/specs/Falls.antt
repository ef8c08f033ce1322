-- Where the next order differs from an order.
use Rattle.std.specs.Prelude.{ℕ, ◌+◌, ◌<◌, ◌≤◌, List, length, slice_index}

-- from a place on, no number is above one before it
abbrev pub FallsFrom : ℕ → List ℕ → Type 0
FallsFrom place xs = (i k : ℕ) → place ≤ i → i ≤ k → k < length xs → slice_index xs k ≤ slice_index xs i

-- no number is above one before it
abbrev pub IsFalling : List ℕ → Type 0
IsFalling xs = FallsFrom 0 xs

-- the number at the place is below the next one, and from there on the numbers fall
pub record IsTurn (xs : List ℕ) (place : ℕ) : Type 0 where
  pub within : place + 1 < length xs
  pub rises : slice_index xs place < slice_index xs (place + 1)
  pub falls : FallsFrom (place + 1) xs

-- the number at the place is above x, and the next one is not
pub record IsLastAbove (xs : List ℕ) (x place : ℕ) : Type 0 where
  pub within : place < length xs
  pub above : x < slice_index xs place
  pub last : place + 1 < length xs → slice_index xs (place + 1) ≤ x
