-- Conditions for a transaction to lock a version.
use Rattle.std.specs.Prelude.{◌≡◌, ℕ, ◌<◌, true, false, None, length}
use Rattle.hek_rules.specs.World.{World, txn_in, version_in, is_aborted}
use Rattle.hek_rules.specs.Locks.{no_read_lock, no_write_lock}
use Rattle.hek_laws.specs.Sound.{is_held}

-- t may read-lock the version: it exists, is not ended, and a read lock is not refused
pub record MayRead (w : World) (t v : ℕ) : Type 0 where
  pub made : v < length w.versions
  pub held : is_held (version_in w.versions v).ender ≡ true
  pub allowed : no_read_lock w t v ≡ None

-- t may write-lock the version: it exists, t has not aborted, and a write lock is not refused
pub record MayWrite (w : World) (t v : ℕ) : Type 0 where
  pub made : v < length w.versions
  pub walker : is_aborted (txn_in w.txns t).state ≡ false
  pub allowed : no_write_lock w v ≡ None
