-- What changes, done one after another, make of what is shown of a world; and when they lead from one world to another.
use Rattle.std.specs.Prelude.{ℕ, ◌≡◌, ◌<◌, ◌+◌, Bool, true, ◌==◌, if◌then◌else◌, List, [], ◌∷◌, length}
use Rattle.hek_rules.specs.declared.event.State.{State}
use Rattle.hek_rules.specs.declared.event.Event.{Event}
use Rattle.hek_rules.specs.declared.event.WriteEntry.{WriteEntry}
use Rattle.hek_rules.specs.Words.{begin_number, end_number}
use Rattle.hek_rules.specs.World.{World, txn_in, declared}
use Rattle.hek_rules.specs.Waits.{waits, commit_deps}
use Rattle.hek_rules.specs.Run.{run}
use Rattle.hek_rules.specs.Shown.{begin_word, end_word, read_set, write_set, bucket_set, waiting_list, dependents_of, lock_count, lock_list}
use Rattle.hek_machine.specs.declared.engine.Engine.{Engine}
use Rattle.hek_machine.specs.Stands.{StandsFor}
use Rattle.hek_machine.specs.Observed.{key_in, value_in}
use Rattle.hek_why.specs.declared.change.Change.{Change}
use Rattle.hek_why.specs.declared.change.Change.TheVariants.{Clock, Begin, End, NewVersion, Txn, LockCount, LockList}
use Rattle.hek_why.specs.declared.change.TxnChange.{TxnChange}
use Rattle.hek_why.specs.declared.change.TxnChange.TheVariants as txn

-- ---- what is shown of a world

-- a version: its row, and its two words as numbers
pub record ShownVersion : Type 0 where
  pub key : ℕ
  pub value : ℕ
  pub begin : ℕ
  pub end : ℕ

pub record ShownTxn : Type 0 where
  pub state : State
  pub begin : ℕ
  pub end : ℕ
  pub waits : ℕ
  pub commit_deps : ℕ
  pub no_more_waits : Bool
  pub abort_now : Bool
  pub reads : List ℕ
  pub writes : List WriteEntry
  pub buckets : List ℕ
  pub waiting : List ℕ
  pub dependents : List ℕ

pub record ShownBucket : Type 0 where
  pub lock_count : ℕ
  pub lock_list : List ℕ

abbrev pub shown_version : World → ℕ → ShownVersion
shown_version w v = record { key = key_in w v; value = value_in w v; begin = begin_number (begin_word w v); end = end_number (end_word w v) }

abbrev pub shown_txn : World → ℕ → ShownTxn
shown_txn w t =
    record {
      state = (txn_in w.txns t).state;
      begin = (txn_in w.txns t).begin;
      end = (txn_in w.txns t).end;
      waits = waits w t;
      commit_deps = commit_deps w t;
      no_more_waits = (txn_in w.txns t).no_more_waits;
      abort_now = (txn_in w.txns t).abort_now;
      reads = read_set w t;
      writes = write_set w t;
      buckets = bucket_set w t;
      waiting = waiting_list w t;
      dependents = dependents_of w t;
    }

abbrev pub shown_bucket : World → ℕ → ShownBucket
shown_bucket w b = record { lock_count = lock_count w b; lock_list = lock_list w b }

-- ---- what one change makes of it

abbrev pub clock_by : Change → ℕ → ℕ
clock_by (Clock a b) time = b
clock_by c time = time

-- the number of versions
abbrev pub count_by : Change → ℕ → ℕ
count_by (NewVersion v key value begin end) count = v + 1
count_by c count = count

-- version v
abbrev pub version_by : ℕ → Change → ShownVersion → ShownVersion
version_by v (Begin u a b) x = if u == v then record x { begin = begin_number b } else x
version_by v (End u a b) x = if u == v then record x { end = end_number b } else x
version_by v (NewVersion u key value begin end) x =
    if u == v then record { key = key; value = value; begin = begin_number begin; end = end_number end } else x
version_by v c x = x

-- the transaction that the change is of
abbrev pub field_by : TxnChange → ShownTxn → ShownTxn
field_by (txn.State a b) x = record x { state = b }
field_by (txn.BeginTime a b) x = record x { begin = b }
field_by (txn.EndTime a b) x = record x { end = b }
field_by (txn.Waits a b) x = record x { waits = b }
field_by (txn.CommitDeps a b) x = record x { commit_deps = b }
field_by (txn.NoMoreWaits a b) x = record x { no_more_waits = b }
field_by (txn.AbortNow a b) x = record x { abort_now = b }
field_by (txn.Reads a b) x = record x { reads = b }
field_by (txn.Writes a b) x = record x { writes = b }
field_by (txn.Buckets a b) x = record x { buckets = b }
field_by (txn.Waiting a b) x = record x { waiting = b }
field_by (txn.Dependents a b) x = record x { dependents = b }

-- transaction t
abbrev pub txn_by : ℕ → Change → ShownTxn → ShownTxn
txn_by t (Txn u change) x = if u == t then field_by change x else x
txn_by t c x = x

-- bucket b
abbrev pub bucket_by : ℕ → Change → ShownBucket → ShownBucket
bucket_by b (LockCount c m n) x = if c == b then record x { lock_count = n } else x
bucket_by b (LockList c m n) x = if c == b then record x { lock_list = n } else x
bucket_by b c x = x

-- ---- all changes

-- what changes make of something, one after another
abbrev pub after : {X : Type 0} → (Change → X → X) → List Change → X → X
after by [] x = x
after by (c ∷ cs) x = after by cs (by c x)

-- The changes lead from w to x: what w shows, with these changes done one after another, is what x shows. Both have the
-- same transactions and buckets.
pub record Leads (w x : World) (changes : List Change) : Type 0 where
  pub clock : after clock_by changes w.clock ≡ x.clock
  pub count : after count_by changes (length w.versions) ≡ length x.versions
  pub versions : (v : ℕ) → after (version_by v) changes (shown_version w v) ≡ shown_version x v
  pub txns : (t : ℕ) → declared x.txns t ≡ true → after (txn_by t) changes (shown_txn w t) ≡ shown_txn x t
  pub buckets : (b : ℕ) → b < x.buckets → after (bucket_by b) changes (shown_bucket w b) ≡ shown_bucket x b
  pub same_txns : length x.txns ≡ length w.txns
  pub same_buckets : x.buckets ≡ w.buckets

-- The changes lead from each world that m represents to each world that n represents and a run reaches from it.
abbrev pub LeadOn : Engine → Engine → List Change → Type 0
LeadOn m n changes = (w : World) (events : List Event) → StandsFor m w → StandsFor n (run w events) → Leads w (run w events) changes
