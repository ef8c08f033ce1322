-- Rows that are kept bucket by bucket.
use Rattle.std.specs.Prelude.{ℕ, ◌≡◌, ◌<◌, ◌%◌, List, [], ◌∷◌, length, slice_index_or, None}
use Rattle.hek_rules.specs.Listing.{put, value_of}
use Rattle.hek_laws.specs.Rows.{AreRising}

-- rows in a number of buckets
pub record BucketRows : Type 0 where
  pub buckets : ℕ
  pub rows : List (ℕ × ℕ)

-- the rows of two parts, by key
abbrev pub joined_rows : List (ℕ × ℕ) → List (ℕ × ℕ) → List (ℕ × ℕ)
joined_rows [] others = others
joined_rows (p ∷ ps) others = put p.0 p.1 (joined_rows ps others)

-- the rows of all parts, by key
abbrev pub gathered : List (List (ℕ × ℕ)) → List (ℕ × ℕ)
gathered [] = []
gathered (p ∷ ps) = joined_rows p (gathered ps)

abbrev pub part_at : List (List (ℕ × ℕ)) → ℕ → List (ℕ × ℕ)
part_at parts i = slice_index_or parts i []

-- each part has only rows of its bucket
pub record AreParts (parts : List (List (ℕ × ℕ))) : Type 0 where
  pub some : 0 < length parts
  pub rising : (i : ℕ) → AreRising (part_at parts i)
  pub apart : (i key : ℕ) → (key % length parts ≡ i → ⊥) → value_of (part_at parts i) key ≡ None
