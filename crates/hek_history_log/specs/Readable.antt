-- Which histories a log's text gives back: those of numbers below 2^63, with pairs by key.
use Rattle.std.specs.Prelude.{ℕ, ◌≡◌, ◌<◌, ◌≤◌, ◌^◌, List, All, map, length, Option, Some, None, ⊤}
use Rattle.std.specs.List.Sorted.{IsStrictlyIncreasing}
use Rattle.hek_history.specs.declared.history.History.{History}
use Rattle.hek_history.specs.declared.history.Transaction.{Transaction}
use Rattle.hek_history.specs.declared.history.Operation.{Operation}
use Rattle.hek_history.specs.declared.history.Operation.TheVariants.{Read, Put, Insert, Update, Delete, Scan}
use Rattle.hek_history.specs.declared.history.Scope.TheVariants.{Range, Bucket}
use Rattle.hek_history_log.specs.LogText.{log_lines}

-- a number that stands for itself
abbrev pub IsOwn : ℕ → Type 0
IsOwn n = n < 2 ^ 63

abbrev pub IsOwnPair : ℕ × ℕ → Type 0
IsOwnPair p = IsOwn p.0 × IsOwn p.1

-- pairs of such numbers, each key once, by key
pub record ArePairs (ps : List (ℕ × ℕ)) : Type 0 where
  pub own : All IsOwnPair ps
  pub by_key : IsStrictlyIncreasing (map (λ p. p.0) ps)

abbrev pub IsOwnFound : Option ℕ → Type 0
IsOwnFound None = ⊤
IsOwnFound (Some value) = IsOwn value

-- an operation that a log with so many buckets has
abbrev pub IsReadable : ℕ → Operation → Type 0
IsReadable buckets (Read key found) = IsOwn key × IsOwnFound found
IsReadable buckets (Put key value) = IsOwn key × IsOwn value
IsReadable buckets (Insert key value done) = IsOwn key × IsOwn value
IsReadable buckets (Update key value done) = IsOwn key × IsOwn value
IsReadable buckets (Delete key done) = IsOwn key
IsReadable buckets (Scan (Bucket all bucket) pairs) = (all ≡ buckets) × (bucket < buckets) × (buckets < 2 ^ 64) × ArePairs pairs.items
IsReadable buckets (Scan (Range low high) pairs) = (low ≤ high) × IsOwn high × ArePairs pairs.items

abbrev pub IsTime : Option ℕ → Type 0
IsTime None = ⊤
IsTime (Some time) = time < 2 ^ 64

-- the second of two times is not before the first, if both are given
abbrev pub AreInOrder : Option ℕ → Option ℕ → Type 0
AreInOrder None second = ⊤
AreInOrder (Some first) None = ⊤
AreInOrder (Some first) (Some second) = first ≤ second

pub record IsReadableTransaction (buckets : ℕ) (t : Transaction) : Type 0 where
  pub begin : IsTime t.begin
  pub end : IsTime t.end
  pub invoked : IsTime t.invoked
  pub answered : IsTime t.answered
  pub ends : AreInOrder t.begin t.end
  pub answers : AreInOrder t.invoked t.answered
  pub operations : All (IsReadable buckets) t.operations.items

-- a history with so many buckets whose text a log can be: its rows are by key, each transaction is one that a log gives
-- back, and no line has more than 2^24 bytes
pub record IsReadableLog (buckets : ℕ) (h : History) : Type 0 where
  pub some_bucket : 0 < buckets
  pub few_buckets : buckets < 2 ^ 64
  pub rows : ArePairs h.rows.items
  pub transactions : All (IsReadableTransaction buckets) h.transactions.items
  pub few_transactions : length h.transactions.items < 2 ^ 63
  pub lines : All (λ line. length line ≤ 2 ^ 24) (log_lines buckets h)
