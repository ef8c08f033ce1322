-- The orders with given numbers of moves, as a dictionary has them.
use Rattle.std.specs.Prelude.{ℕ, zero, suc, ◌≡◌, ◌^◌, ◌<◌, ◌≤◌, ◌⊎◌, List, [], ◌∷◌, ◌++◌, map, length, reverse, slice_get, slice_index, slice_set, sum, Some}
use Rattle.hek_permute.specs.Moves.{first_order_from}
use Rattle.hek_permute.specs.Orders.{AreAll}

-- the orders that begin with one of a transaction's moves, if any is left; `rest` has the orders of the other moves
abbrev pub begun_by : (List ℕ → List (List ℕ)) → List ℕ → ℕ → ℕ → List (List ℕ)
begun_by rest counts place zero = []
begun_by rest counts place (suc left) = map (λ o. suc place ∷ o) (rest (slice_set counts place left))

-- the orders that begin with a move of one of the first transactions
abbrev pub begun_below : (List ℕ → List (List ℕ)) → List ℕ → ℕ → List (List ℕ)
begun_below rest counts zero = []
begun_below rest counts (suc place) = begun_below rest counts place ++ begun_by rest counts place (slice_index counts place)

-- the orders of n moves, of which each transaction has as many as `counts` says
abbrev pub orders_of : ℕ → List ℕ → List (List ℕ)
orders_of zero counts = [] ∷ []
orders_of (suc n) counts = begun_below (orders_of n) counts (length counts)

-- all orders of moves, by how many of them each transaction has, in the order of a dictionary
abbrev pub all_orders : List ℕ → List (List ℕ)
all_orders counts = orders_of (sum counts) counts

-- `all_orders` has all orders of moves, each once
abbrev pub AllOrdersAreNumbered : Type 0
AllOrdersAreNumbered = (counts : List ℕ) → AreAll (first_order_from 1 counts) (reverse (all_orders counts))

-- how many orders of moves there are
abbrev pub order_total : List ℕ → ℕ
order_total counts = length (all_orders counts)

-- the moves or their orders do not fit 64 bits
abbrev pub AreTooMany : List ℕ → Type 0
AreTooMany counts = (2 ^ 64 ≤ sum counts) ⊎ (2 ^ 64 ≤ order_total counts)

-- how many moves there are in all, and how many orders of them
pub record IsCount (counts : List ℕ) (moves orders : ℕ) : Type 0 where
  pub moves_are : moves ≡ sum counts
  pub orders_are : orders ≡ order_total counts

-- the first move in the order with this number is one of the transaction at the place; the rest of the order has the
-- number `later` among the orders of the other moves, of which there are `orders`
pub record IsFirstMove (counts : List ℕ) (number place later orders : ℕ) : Type 0 where
  pub left : ℕ
  pub has : slice_index counts place ≡ suc left
  pub orders_are : orders ≡ order_total (slice_set counts place left)
  pub below : later < orders
  pub begins : (rest : List ℕ) → slice_get (all_orders (slice_set counts place left)) later ≡ Some rest → slice_get (all_orders counts) number ≡ Some (suc place ∷ rest)
