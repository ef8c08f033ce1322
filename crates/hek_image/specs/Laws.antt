-- What the definition of images means.
use Rattle.std.specs.Prelude.{◌≡◌, ℕ, ◌<◌, ◌≤◌, ◌⊎◌, List, get_or, length, Ok}
use Rattle.hek_rules.specs.Plan.{Plan, IsPlan}
use Rattle.hek_image.specs.Schedules.{image, image_in, HasNoSnapshot}
use Rattle.hek_image.specs.Loading.{loading}

abbrev pub IsBytes : List ℕ → Type 0
IsBytes bytes = (i : ℕ) → get_or bytes i 0 < 256

-- a schedule is loaded from its image, and from its version 1 image if it has one; what loads is one of the two; no
-- image is longer than the one with the most rows, transactions with the longest names, and steps
pub record ImagesAreExact : Type 0 where
  pub again : (p : Plan) → IsPlan p → loading (image p) ≡ Ok p
  pub again_old : (p : Plan) → IsPlan p → HasNoSnapshot p → loading (image_in 1 p) ≡ Ok p
  pub only : (bytes : List ℕ) (p : Plan) → IsBytes bytes → loading bytes ≡ Ok p → (bytes ≡ image p) ⊎ (HasNoSnapshot p × (bytes ≡ image_in 1 p))
  pub bounded : (version : ℕ) (p : Plan) → IsPlan p → length (image_in version p) ≤ 22083414
