-- What a history says, whatever room its lists have.
use Rattle.std.specs.Prelude.{ℕ, ◌≡◌, List, map}
use Rattle.std.specs.List.{AllZip}
use Rattle.hek_history.specs.declared.history.History.{History}
use Rattle.hek_history.specs.declared.history.Transaction.{Transaction}
use Rattle.hek_history.specs.declared.history.Operation.{Operation}
use Rattle.hek_history.specs.declared.history.Operation.TheVariants.{Read, Put, Insert, Update, Delete, Scan}
use Rattle.hek_history.specs.declared.history.Scope.{Scope}
use Rattle.hek_history.specs.declared.history.Level.{Level}
use Rattle.hek_history.specs.declared.history.Status.{Status}

-- an operation with its answer; a scan with the list of its pairs
pub data Content : Type 0 where
  plain : Operation → Content
  scan : Scope → List (ℕ × ℕ) → Content

abbrev pub content : Operation → Content
content (Read key found) = plain (Read key found)
content (Put key value) = plain (Put key value)
content (Insert key value done) = plain (Insert key value done)
content (Update key value done) = plain (Update key value done)
content (Delete key done) = plain (Delete key done)
content (Scan scope pairs) = scan scope pairs.items

-- two transactions say the same
pub record SameTransaction (t u : Transaction) : Type 0 where
  pub level : t.level ≡ u.level
  pub status : t.status ≡ u.status
  pub begin : t.begin ≡ u.begin
  pub end : t.end ≡ u.end
  pub invoked : t.invoked ≡ u.invoked
  pub answered : t.answered ≡ u.answered
  pub operations : map content t.operations.items ≡ map content u.operations.items

-- a history has these rows, and transactions that say the same as these
pub record SaysSame (h : History) (rows : List (ℕ × ℕ)) (ts : List Transaction) : Type 0 where
  pub opening_rows : h.rows.items ≡ rows
  pub transactions : AllZip SameTransaction h.transactions.items ts
