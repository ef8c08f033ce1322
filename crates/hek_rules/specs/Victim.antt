-- The victim and its cycle, computed for edges between numbers below n; and the law that ties it to walks.
use Rattle.std.specs.Prelude.{ℕ, zero, suc, ◌≡◌, ◌↔◌, Bool, true, false, ◌&&◌, if◌then◌else◌, List, [], ◌∷◌, Option, Some, None}
use Rattle.std.specs.Option.{option_or}
use Rattle.hek_rules.specs.Cycles.{IsClosedWalk, IsVictim, JoinsBelow}

-- the least number below n that passes the test
unfoldable pub least : (ℕ → Bool) → ℕ → Option ℕ
least test zero = None
least test (suc n) = option_or (least test n) (if test n then Some n else None)

abbrev pub is_found : Option ℕ → Bool
is_found (Some x) = true
is_found None = false

-- whether a walk leads from x to t with m members in between
unfoldable pub leads : (ℕ → ℕ → Bool) → ℕ → ℕ → ℕ → ℕ → Bool
leads edge n zero x t = edge x t
leads edge n (suc m) x t = is_found (least (λ y. edge x y && leads edge n m y t) n)

-- the least number of members in between, below `limit`, with which a walk leads from x to t
unfoldable pub fewest : (ℕ → ℕ → Bool) → ℕ → ℕ → ℕ → ℕ → Option ℕ
fewest edge n t limit x = least (λ m. leads edge n m x t) limit

-- m members in between from x to t, each the least that a walk can go on from
unfoldable pub between : (ℕ → ℕ → Bool) → ℕ → ℕ → ℕ → ℕ → List ℕ
between edge n zero x t = []
between edge n (suc m) x t =
    elim (least (λ y. edge x y && leads edge n m y t) n) [ None ↦ [] | Some y ↦ y ∷ between edge n m y t ]

-- the greatest number below `limit` on a closed walk, with its cycle
unfoldable pub victim_below : (ℕ → ℕ → Bool) → ℕ → ℕ → Option (ℕ × List ℕ)
victim_below edge n zero = None
victim_below edge n (suc u) =
    elim (fewest edge n u n u) [ None ↦ victim_below edge n u | Some m ↦ Some (u, u ∷ between edge n m u u) ]

unfoldable pub victim_of : (ℕ → ℕ → Bool) → ℕ → Option (ℕ × List ℕ)
victim_of edge n = victim_below edge n n

-- the computed victim and cycle are exactly those of `IsVictim`
abbrev pub VictimIsFound : Type 0
VictimIsFound =
    (edge : ℕ → ℕ → Bool) (n : ℕ) →
    JoinsBelow edge n →
    (u : ℕ) (cycle : List ℕ) →
    (victim_of edge n ≡ Some (u, cycle)) ↔ IsVictim edge u cycle

-- no victim is computed exactly if no walk is closed
abbrev pub NoneIsRight : Type 0
NoneIsRight =
    (edge : ℕ → ℕ → Bool) (n : ℕ) →
    JoinsBelow edge n →
    (victim_of edge n ≡ None) ↔ ((u : ℕ) (walk : List ℕ) → IsClosedWalk edge u walk → ⊥)
