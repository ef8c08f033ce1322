-- The outcome of an order.
use Rattle.std.specs.Prelude.{ℕ, ◌≡◌, Bool, List}
use Rattle.hek_serial.specs.declared.serializability.Serializability.{Serializability}
use Rattle.hek_permute.specs.declared.outcome.Ending.{Ending}

-- how each transaction ended, the committed rows, whether those that committed can follow one another, and whether a transaction had to wait
pub record Found : Type 0 where
  pub ends : List Ending
  pub rows : List (ℕ × ℕ)
  pub verdict : Serializability
  pub waited : Bool

-- two equal outcomes; whether a transaction had to wait does not count
pub record IsSame (x y : Found) : Type 0 where
  pub ends : x.ends ≡ y.ends
  pub rows : x.rows ≡ y.rows
  pub verdict : x.verdict ≡ y.verdict

-- an outcome, how many orders have it, in how many of them a transaction had to wait, and the first order
pub record Line : Type 0 where
  pub outcome : Found
  pub orders : ℕ
  pub waited : ℕ
  pub first : List ℕ
