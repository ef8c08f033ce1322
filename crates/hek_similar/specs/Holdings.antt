-- Regrouped worlds: equal but for the order in which different transactions came by what they hold.
use Rattle.std.specs.Prelude.{◌≡◌, ℕ}
use Rattle.hek_rules.specs.World.{World}
use Rattle.hek_rules.specs.Shown.{read_set, write_set, bucket_set, waiting_list, dependents_of}

-- each transaction has the same lists in both worlds
pub record Regrouped (w x : World) : Type 0 where
  pub buckets : w.buckets ≡ x.buckets
  pub clock : w.clock ≡ x.clock
  pub versions : w.versions ≡ x.versions
  pub txns : w.txns ≡ x.txns
  pub read_sets : (t : ℕ) → read_set w t ≡ read_set x t
  pub write_sets : (t : ℕ) → write_set w t ≡ write_set x t
  pub bucket_sets : (t : ℕ) → bucket_set w t ≡ bucket_set x t
  pub waiting_lists : (t : ℕ) → waiting_list w t ≡ waiting_list x t
  pub dependents : (t : ℕ) → dependents_of w t ≡ dependents_of x t

-- the world w, whose transactions hold what they hold in x
abbrev pub holding : World → World → World
holding w x =
    record w {
      read_locks = x.read_locks;
      writes = x.writes;
      bucket_locks = x.bucket_locks;
      waiters = x.waiters;
      dependents = x.dependents;
    }
