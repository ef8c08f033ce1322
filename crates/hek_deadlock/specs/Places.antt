-- Numbers in a list, and their places there.
use Rattle.std.specs.Prelude.{ℕ, ◌≡◌, ◌<◌, Bool, List, Option, Some, None, Vec, length, map, slice_index_or}
use Rattle.std.specs.List.{All}
use Rattle.std.specs.declared.alloc.Global.{Global}
use Rattle.hek_deadlock.specs.Rows.{waits_by_rows, IsInRange}

-- the number at a place
abbrev pub id_at : List ℕ → ℕ → ℕ
id_at ids i = slice_index_or ids i 0

-- each number is less than those after it
pub record IsRising (ids : List ℕ) : Type 0 where
  pub less : (i j : ℕ) → i < j → j < length ids → id_at ids i < id_at ids j

-- the rows of a wait graph: the row of a place has the places of the numbers that wait for its number
pub record AreOfPlaces (edge : ℕ → ℕ → Bool) (ids : List ℕ) (rows : List (Vec ℕ Global)) : Type 0 where
  pub count : length rows ≡ length ids
  pub range : IsInRange rows
  pub edges : (i j : ℕ) → i < length ids → j < length ids → waits_by_rows rows i j ≡ edge (id_at ids i) (id_at ids j)

-- a victim and a cycle, all given as places
pub record ArePlaces (ids : List ℕ) (found : ℕ × List ℕ) : Type 0 where
  pub victim : found.0 < length ids
  pub members : All (λ i. i < length ids) found.1

-- the victim and the cycle as numbers, from their places
abbrev pub answer_at : List ℕ → Option (ℕ × List ℕ) → Option (ℕ × List ℕ)
answer_at ids None = None
answer_at ids (Some found) = Some (id_at ids found.0, map (id_at ids) found.1)

-- the result of the search, as a victim and a list
abbrev pub by_place : Option (ℕ × Vec ℕ Global) → Option (ℕ × List ℕ)
by_place None = None
by_place (Some found) = Some (found.0, found.1.items)
