-- An item is new at its place in a list of distinct items.
use Rattle.std.proofs.Common.{◌≡◌, ℕ, Bool, false, eqb, List, [], ◌∷◌, ◌++◌, map, refl, sym, ap, nat_eq}
use Rattle.std.specs.List.{AllByRecursion, IsDistinct, list_any}
use Rattle.std.specs.Str.{bytes_eq}
use Rattle.std.proofs.lemmas.Bool.Decides.{same_from_decides, Decides-eqb, Decides-like}
use Rattle.std.proofs.lemmas.Slice.Eq.{bytes_eq-Decides}

all_middle : {X : Type 0} (P : X → Type 0) (xs : List X) (y : X) (ys : List X) → AllByRecursion P (xs ++ y ∷ ys) → P y
all_middle P [] y ys h = h.0
all_middle P (x ∷ xs) y ys h = all_middle P xs y ys h.1

pub fresh_before : {X : Type 0} (same : X → X → Bool) → ((x y : X) → same x y ≡ same y x) → (xs : List X) (y : X) (ys : List X) → IsDistinct same (xs ++ y ∷ ys) → list_any (same y) xs ≡ false
unfolding IsDistinct
fresh_before same flips [] y ys h = refl
fresh_before same flips (x ∷ xs) y ys h = rw (flips y x, all_middle (λ z. same x z ≡ false) xs y ys h.0) (fresh_before same flips xs y ys h.1)

pub nat_flips : (x y : ℕ) → nat_eq x y ≡ nat_eq y x
nat_flips x y = same_from_decides (eqb x y) (eqb y x) (Decides-eqb x y) (Decides-like (eqb y x) (λ e. sym e) (λ e. sym e) (Decides-eqb y x))

pub bytes_flips : (x y : List ℕ) → bytes_eq x y ≡ bytes_eq y x
bytes_flips x y = same_from_decides (bytes_eq x y) (bytes_eq y x) (bytes_eq-Decides x y) (Decides-like (bytes_eq y x) (λ e. sym e) (λ e. sym e) (bytes_eq-Decides y x))

pub map_append : {X Y : Type 0} (f : X → Y) (xs ys : List X) → map f (xs ++ ys) ≡ map f xs ++ map f ys
map_append f [] ys = refl
map_append f (x ∷ xs) ys = ap (λ zs. f x ∷ zs) (map_append f xs ys)
