-- A wait graph as a row for each number: the numbers that wait for it.
use Rattle.std.specs.Prelude.{ℕ, ◌≡◌, ◌<◌, Bool, true, false, ◌==◌, if◌then◌else◌, List, [], Option, Some, None, Vec, length, slice_get, slice_index_or}
use Rattle.std.specs.List.{list_any, All}
use Rattle.hek_rules.specs.Listing.{is_among}
use Rattle.std.specs.declared.alloc.Global.{Global}
use Rattle.hek_rules.specs.Victim.{fewest}

abbrev pub row_in : Option (Vec ℕ Global) → List ℕ
row_in None = []
row_in (Some row) = row.items

-- the numbers that wait for t
abbrev pub waiters_of : List (Vec ℕ Global) → ℕ → List ℕ
waiters_of rows t = row_in (slice_get rows t)

-- u waits for t
unfoldable pub waits_by_rows : List (Vec ℕ Global) → ℕ → ℕ → Bool
waits_by_rows rows u t = is_among (waiters_of rows t) u

-- each number that waits has a row
abbrev pub IsInRange : List (Vec ℕ Global) → Type 0
IsInRange rows = All (λ row. All (λ x. x < length rows) row.items) rows

abbrev pub level_at : List (Option ℕ) → ℕ → Option ℕ
level_at levels x = slice_index_or levels x None

-- the level of a number: an old level stays, and a number without one gets this level if it is hit
abbrev pub marked : Bool → ℕ → Option ℕ → Option ℕ
marked hit level (Some m) = Some m
marked hit level None = if hit then Some level else None

abbrev pub is_unmarked : Option ℕ → Bool
is_unmarked (Some m) = false
is_unmarked None = true

abbrev pub is_level : Option ℕ → ℕ → Bool
is_level (Some m) level = m == level
is_level None level = false

-- x waits for one of the numbers ys
unfoldable pub reaches : List (Vec ℕ Global) → List ℕ → ℕ → Bool
reaches rows ys x = list_any (λ (y : ℕ). waits_by_rows rows x y) ys

-- the level of each number: the fewest members between it and the target
pub record AreLevels (rows : List (Vec ℕ Global)) (target : ℕ) (levels : List (Option ℕ)) : Type 0 where
  pub long : length levels ≡ length rows
  pub least : (x : ℕ) → x < length rows → level_at levels x ≡ fewest (waits_by_rows rows) (length rows) target (length rows) x
