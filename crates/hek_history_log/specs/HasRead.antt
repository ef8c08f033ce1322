-- What was read of a log so far: its opening line, and then transactions, named by their places from 1.
use Rattle.std.specs.Prelude.{ℕ, ◌≡◌, ◌≢◌, ◌<◌, List, [], length, Some, None, false, nat_eq}
use Rattle.std.specs.List.{AllZip}
use Rattle.indexmap.specs.IndexSet.{IsEmpty, contains}
use Rattle.hek_history.specs.declared.history.Transaction.{Transaction}
use Rattle.hek_history_log.specs.Contents.{SameTransaction}
use Rattle.hek_history_log.specs.declared.numbering.Labels.{Labels}
use Rattle.hek_history_log.specs.declared.reader.Draft.{Draft}

-- each label is its own number
pub record HasNoEntry (labels : Labels) : Type 0 where
  pub texts : IsEmpty labels.texts
  pub large : IsEmpty labels.large
  pub negative : IsEmpty labels.negative

-- nothing was read
pub record IsFresh (draft : Draft) : Type 0 where
  pub opening : draft.rows_line ≡ 0
  pub rows : draft.history.rows.items ≡ []
  pub transactions : draft.history.transactions.items ≡ []
  pub keys : HasNoEntry draft.symbols.keys
  pub values : HasNoEntry draft.symbols.values
  pub twins : draft.names.twins.items ≡ []
  pub turns : draft.names.turns.items ≡ []
  pub seen : IsEmpty draft.seen

-- an opening line with so many buckets and these rows was read, and then transactions that say the same as ts
pub record HasRead (buckets : ℕ) (rows : List (ℕ × ℕ)) (ts : List Transaction) (draft : Draft) : Type 0 where
  pub opening : draft.rows_line ≢ 0
  pub bucket_count : draft.symbols.buckets ≡ Some buckets
  pub opening_rows : draft.history.rows.items ≡ rows
  pub transactions : AllZip SameTransaction draft.history.transactions.items ts
  pub keys : HasNoEntry draft.symbols.keys
  pub values : HasNoEntry draft.symbols.values
  pub twins : draft.names.twins.items ≡ []
  pub turns : draft.names.turns.items ≡ []
  -- no name is above the number of transactions
  pub seen : (name : ℕ) → length ts < name → contains nat_eq draft.seen name ≡ false
