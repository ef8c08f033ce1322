-- The names of the members that a line has.
use Rattle.std.specs.Prelude.{ℕ, ◌≡◌, List, [], ◌∷◌, All, IsTrue, false}
use Rattle.std.specs.Borrow.{Bor}
use Rattle.std.specs.List.{AllPairs, list_any}
use Rattle.std.specs.Str.{bytes_eq}
use Rattle.json.specs.Json.{Members, no_members, member}

abbrev pub names_of : Members → List (List ℕ)
names_of no_members = []
names_of (member name j others) = name ∷ names_of others

abbrev pub IsKnown : List (Bor (List ℕ)) → List ℕ → Type 0
IsKnown known name = IsTrue (list_any (λ k. bytes_eq k.now name) known)

-- each name is known, and none is there twice
pub record AreMembers (known : List (Bor (List ℕ))) (names : List (List ℕ)) : Type 0 where
  pub each : All (IsKnown known) names
  pub once : AllPairs (λ a b. bytes_eq a b ≡ false) names
