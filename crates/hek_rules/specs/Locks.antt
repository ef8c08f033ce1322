-- Read locks and write locks: when they are refused, and what they change.
use Rattle.std.specs.Prelude.{ℕ, Bool, true, false, not, ◌&&◌, ◌||◌, ◌==◌, nat_lt, if◌then◌else◌, List, [], ◌∷◌, ◌++◌, Option, Some, None, slice_set, length}
use Rattle.hek_rules.specs.declared.event.Cause.{Cause}
use Rattle.hek_rules.specs.declared.event.Cause.TheVariants.{Conflict, NoMoreReads, ReadersFull, NoMoreWaits}
use Rattle.hek_rules.specs.declared.event.WriteEntry.TheVariants.{BeginOf, EndOf}
use Rattle.hek_rules.specs.Listing.{has, join, leave, firsts_of}
use Rattle.hek_rules.specs.declared.word.BeginRecord.TheVariants.{By}
use Rattle.hek_rules.specs.World.{World, Version, Ender, EndedAt, Held, Txn, txn_in, version_in, is_made_by, is_aborted, bucket_of}
use Rattle.hek_rules.specs.Waits.{readers}

-- the ender after Clear: an aborted writer and its flag go
abbrev pub cleared : List Txn → Ender → Ender
cleared ts (EndedAt time) = EndedAt time
cleared ts (Held None no_more) = Held None no_more
cleared ts (Held (Some u) no_more) = if is_aborted (txn_in ts u).state then Held None false else Held (Some u) no_more

-- why a version with `count` readers refuses a read lock, if it does
abbrev pub read_refusal : List Txn → ℕ → Ender → Option Cause
read_refusal ts count (EndedAt time) = None
read_refusal ts count (Held writer true) = Some NoMoreReads
read_refusal ts count (Held None false) = if nat_lt count 255 then None else Some ReadersFull
read_refusal ts count (Held (Some u) false) =
    if not (nat_lt count 255) then Some ReadersFull
    else if count == 0 && (txn_in ts u).no_more_waits then Some NoMoreWaits
    else None

-- t needs no read lock of the version: t made it, or read-locks it already
abbrev pub reads_freely : World → ℕ → ℕ → Bool
reads_freely w t v = is_made_by t (version_in w.versions v).creator || has w.read_locks t v

abbrev pub no_read_lock : World → ℕ → ℕ → Option Cause
no_read_lock w t v =
    if reads_freely w t v then None
    else read_refusal w.txns (readers w.read_locks v) (cleared w.txns (version_in w.versions v).ender)

abbrev pub write_refusal : Ender → Option Cause
write_refusal (EndedAt time) = Some Conflict
write_refusal (Held None no_more) = None
write_refusal (Held (Some u) no_more) = Some Conflict

abbrev pub no_write_lock : World → ℕ → Option Cause
no_write_lock w v = write_refusal (cleared w.txns (version_in w.versions v).ender)

abbrev pub with_ender : Version → Ender → Version
with_ender x ender = record x { ender = ender }

abbrev pub set_ender : List Version → ℕ → Ender → List Version
set_ender vs v ender = slice_set vs v (with_ender (version_in vs v) ender)

abbrev pub add_read : World → ℕ → ℕ → World
add_read w t v =
    if reads_freely w t v then w
    else record w {
      versions = set_ender w.versions v (cleared w.txns (version_in w.versions v).ender);
      read_locks = join w.read_locks t v;
    }

abbrev pub add_write : World → ℕ → ℕ → World
add_write w t v =
    record w {
      versions = set_ender w.versions v (Held (Some t) false);
      read_locks = leave w.read_locks t v;
      writes = w.writes ++ (t, EndOf v) ∷ [];
    }

-- t joins the waiting list of each other transaction that holds the bucket
abbrev pub wait_for_holders : List ℕ → ℕ → List (ℕ × ℕ) → List (ℕ × ℕ)
wait_for_holders [] t waiters = waiters
wait_for_holders (h ∷ hs) t waiters = if h == t then wait_for_holders hs t waiters else wait_for_holders hs t (join waiters h t)

abbrev pub add_version : World → ℕ → ℕ → ℕ → World
add_version w t key value =
    record w {
      versions = w.versions ++ record { key = key; value = value; creator = By t; ender = Held None false } ∷ [];
      writes = w.writes ++ (t, BeginOf (length w.versions)) ∷ [];
      waiters = wait_for_holders (firsts_of w.bucket_locks (bucket_of w key)) t w.waiters;
    }
