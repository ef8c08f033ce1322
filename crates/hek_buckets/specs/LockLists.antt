-- LockLists: for each bucket the transactions that lock it, in order of entry.
use Rattle.std.specs.Prelude.{ℕ, List, slice_index_or, slice_set}
use Rattle.hek_txn.specs.Entries.{Entries, no_entries}

abbrev pub holders_of : List (Entries ℕ) → ℕ → Entries ℕ
holders_of lists b = slice_index_or lists b no_entries

abbrev pub with_holders : List (Entries ℕ) → ℕ → Entries ℕ → List (Entries ℕ)
with_holders lists b e = slice_set lists b e
