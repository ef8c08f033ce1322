-- What numbers that stand for themselves leave as it was.
use Rattle.std.specs.Prelude.{ℕ, ◌≡◌, ◌≢◌, [], ◌∷◌, ◌++◌, nat_eq}
use Rattle.indexmap.specs.IndexSet.{contains}
use Rattle.hek_history.specs.declared.history.Transaction.{Transaction}
use Rattle.hek_history_log.specs.Contents.{SameTransaction}
use Rattle.hek_history_log.specs.declared.logged.Names.{Names}
use Rattle.hek_history_log.specs.declared.reader.Draft.{Draft}
use Rattle.hek_history_log.specs.declared.symbols.Symbols.{Symbols}

-- no key and no value was added that has an entry
pub record KeepsLabels (old new : Symbols) : Type 0 where
  pub keys : new.keys ≡ old.keys
  pub values : new.values ≡ old.values
  pub buckets : new.buckets ≡ old.buckets

-- no transaction became two, and none was added that is of a session
pub record KeepsTurns (old new : Names) : Type 0 where
  pub twins : new.twins.items ≡ old.twins.items
  pub turns : new.turns.items ≡ old.turns.items

-- a transaction that says the same was added
pub record AddsTransaction (old new : Draft) (t : Transaction) : Type 0 where
  pub labels : KeepsLabels old.symbols new.symbols
  pub rows : new.history.rows ≡ old.history.rows
  pub opening : new.rows_line ≡ old.rows_line
  pub seen : new.seen ≡ old.seen
  pub turns : KeepsTurns old.names new.names
  pub read : Transaction
  pub added : new.history.transactions.items ≡ old.history.transactions.items ++ read ∷ []
  pub same : SameTransaction read t

-- a name was added, and nothing else of what was read changed
pub record AddsName (old new : Draft) (added : ℕ) : Type 0 where
  pub history : new.history ≡ old.history
  pub symbols : new.symbols ≡ old.symbols
  pub opening : new.rows_line ≡ old.rows_line
  pub turns : KeepsTurns old.names new.names
  pub seen : (name : ℕ) → name ≢ added → contains nat_eq new.seen name ≡ contains nat_eq old.seen name
