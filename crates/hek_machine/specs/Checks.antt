-- The lists of a transaction that the checks look at.
use Rattle.std.specs.Prelude.{ℕ, ◌+◌, ◌==◌, length, Bool}
use Rattle.hek_txn.specs.TxnTable.{TxnTable, read_set_of, write_set_of, bucket_set_of, waiting_list_of}

-- the transaction holds no lock, has nothing to stamp, and nobody waits for it
abbrev pub is_idle : TxnTable → ℕ → Bool
is_idle x t =
    length (read_set_of x t).items + length (bucket_set_of x t).items + length (waiting_list_of x t).items
    + length (write_set_of x t).items == 0
