-- Orders of moves: lists of transactions, compared as the words of a dictionary are.
use Rattle.std.specs.Prelude.{ℕ, ◌≡◌, ◌<◌, ◌==◌, ◌⊎◌, List, [], ◌∷◌, count_by}
use Rattle.std.specs.List.{AllByRecursion}

-- xs comes before ys in a dictionary
abbrev pub IsBelow : List ℕ → List ℕ → Type 0
IsBelow xs [] = ⊥
IsBelow [] (y ∷ ys) = Unit {0}
IsBelow (x ∷ xs) (y ∷ ys) = (x < y) ⊎ ((x ≡ y) × IsBelow xs ys)

-- how often a transaction occurs in an order
abbrev pub name_count : ℕ → List ℕ → ℕ
name_count t xs = count_by (λ u. u == t) xs

-- each transaction occurs equally often in both orders
abbrev pub AreAlike : List ℕ → List ℕ → Type 0
AreAlike xs ys = (t : ℕ) → name_count t xs ≡ name_count t ys

-- the new order is the first one after the old among the orders of the same moves
pub record IsNext (old new : List ℕ) : Type 0 where
  pub alike : AreAlike old new
  pub behind : IsBelow old new
  pub first : (q : List ℕ) → AreAlike old q → IsBelow old q → IsBelow q new → ⊥

-- no order of the same moves comes after the old one
pub record IsLast (old : List ℕ) : Type 0 where
  pub none : (q : List ℕ) → AreAlike old q → IsBelow old q → ⊥

-- an order is in a list of orders
abbrev pub IsAmong : List ℕ → List (List ℕ) → Type 0
IsAmong o [] = ⊥
IsAmong o (q ∷ qs) = (o ≡ q) ⊎ IsAmong o qs

-- each order comes before the preceding one in the list
abbrev pub AreFalling : List (List ℕ) → Type 0
AreFalling [] = Unit {0}
AreFalling (q ∷ qs) = AllByRecursion (λ o. IsBelow o q) qs × AreFalling qs

-- all orders of the same moves as the first, each once, the last order first
pub record AreAll (first : List ℕ) (orders : List (List ℕ)) : Type 0 where
  pub sound : AllByRecursion (AreAlike first) orders
  pub falling : AreFalling orders
  pub complete : (o : List ℕ) → AreAlike first o → IsAmong o orders
