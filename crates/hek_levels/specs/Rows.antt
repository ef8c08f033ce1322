-- Rows by key.
use Rattle.std.specs.Prelude.{ℕ, ◌≡◌, List, Option, Some, None, slice_get}
use Rattle.std.specs.BTreeMap.{get, BTreeMap}
use Rattle.std.specs.Ordering.{nat_cmp}

-- the value of a key
abbrev pub row_of : BTreeMap ℕ ℕ → ℕ → Option ℕ
row_of rows key = get nat_cmp rows key

-- the first of two values, or else the second
abbrev pub either : Option ℕ → Option ℕ → Option ℕ
either None b = b
either (Some a) b = Some a

-- what is left at a key, or else what was there
abbrev pub left_over : Option (Option ℕ) → Option ℕ → Option ℕ
left_over None old = old
left_over (Some left) old = left

-- the key is one of these
abbrev pub IsAmong : List ℕ → ℕ → Type 0
IsAmong keys key = (n : ℕ) × (slice_get keys n ≡ Some key)
