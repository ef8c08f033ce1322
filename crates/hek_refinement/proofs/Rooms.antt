-- Lists with other room show the same world.
use Rattle.std.proofs.Common.{◌≡◌, ℕ, List, refl, ◌∙◌, arith, length}
use Rattle.hek_rules.specs.declared.event.WriteEntry.{WriteEntry}
use Rattle.hek_rules.specs.World.{World}
use Rattle.hek_rules.specs.Shown.{read_set, write_set}
use Rattle.hek_txn.specs.Entries.{Entries}
use Rattle.hek_txn.specs.TxnTable.{TxnTable, Declared, read_set_of, write_set_of, with_read_set, with_write_set}
use Rattle.hek_refinement.specs.Shows.{ShowsTxns}
use Rattle.hek_refinement.proofs.Entries.{HasPlace, each-list, even-read_set, even-write_set}

-- a declared transaction has a place in a list of the table's length
pub place-in : {X : Type 0} (xs : List X) (x : TxnTable) (t : ℕ) → length xs ≡ length x.cores → Declared x t → HasPlace xs t
place-in xs x t e d = record { named = d.named; within = let l = d.within in omega (arith, l, e) }

pub room-read_set : (x : TxnTable) (w : World) (t : ℕ) (e : Entries ℕ) → Declared x t → e.items ≡ (read_set_of x t).items → ShowsTxns x w → ShowsTxns (with_read_set x t e) w
room-read_set x w t e d same s = record {
  cores = s.cores;
  even = even-read_set x t e s.even;
  waits = s.waits;
  commit_deps = s.commit_deps;
  read_sets = each-list x.read_sets t e (read_set w) (read_set w) (place-in x.read_sets x t s.even.read_sets d) s.read_sets (λ u ne. refl) (same ∙ s.read_sets t);
  write_sets = s.write_sets;
  bucket_sets = s.bucket_sets;
  waiting_lists = s.waiting_lists;
  dependents = s.dependents;
}

pub room-write_set : (x : TxnTable) (w : World) (t : ℕ) (e : Entries WriteEntry) → Declared x t → e.items ≡ (write_set_of x t).items → ShowsTxns x w → ShowsTxns (with_write_set x t e) w
room-write_set x w t e d same s = record {
  cores = s.cores;
  even = even-write_set x t e s.even;
  waits = s.waits;
  commit_deps = s.commit_deps;
  read_sets = s.read_sets;
  write_sets = each-list x.write_sets t e (write_set w) (write_set w) (place-in x.write_sets x t s.even.write_sets d) s.write_sets (λ u ne. refl) (same ∙ s.write_sets t);
  bucket_sets = s.bucket_sets;
  waiting_lists = s.waiting_lists;
  dependents = s.dependents;
}
