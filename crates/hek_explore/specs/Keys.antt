-- The shape of a play, which its key has: what a program sees of its world, and what of its history decides the outcome. Times are left out
-- but for the order that a snapshot transaction may still ask for, and versions are numbered by group, in each group
-- in order.
use Rattle.std.specs.Prelude.{ℕ, zero, suc, ◌+◌, Bool, ◌&&◌, nat_lt, if◌then◌else◌, List, [], ◌∷◌, ◌++◌, Option, Some, None, length}
use Rattle.hek_rules.specs.declared.event.Event.{Event}
use Rattle.hek_rules.specs.declared.event.Level.{Level}
use Rattle.hek_rules.specs.declared.event.State.{State}
use Rattle.hek_rules.specs.declared.event.WriteEntry.{WriteEntry}
use Rattle.hek_rules.specs.declared.reply.Reply.{Reply}
use Rattle.hek_rules.specs.declared.word.EndRecord.{EndRecord}
use Rattle.hek_rules.specs.declared.word.EndRecord.TheVariants.{Until, Lock}
use Rattle.hek_rules.specs.Plan.{Plan}
use Rattle.hek_rules.specs.Shown.{begin_word, end_word, read_set, write_set, bucket_set, waiting_list, dependents_of}
use Rattle.hek_rules.specs.Words.{infinity}
use Rattle.hek_rules.specs.World.{World, txn_in, version_in, is_prepared}
use Rattle.hek_similar.specs.Canonical.{by_group}
use Rattle.hek_similar.specs.Forms.{After}
use Rattle.hek_similar.specs.Places.{renumbered}
use Rattle.hek_similar.specs.Similar.{timeless_creator, made_time, looks_back}
use Rattle.hek_similar.specs.Verdicts.{judged_part, drawn_in}
use Rattle.hek_worker.specs.declared.entry.Entry.{Entry}
use Rattle.hek_permute.specs.declared.outcome.Ending.{Ending}
use Rattle.hek_permute.specs.declared.play.Place.{Place}
use Rattle.hek_permute.specs.Outcomes.{end_in, has_wait}
use Rattle.hek_explore.specs.declared.key.VersionKey.{VersionKey}
use Rattle.hek_explore.specs.Groups.{group_in}
use Rattle.hek_explore.specs.Twins.{world_after, steps_in}

-- the values of f at the numbers below n
abbrev pub list_upto : {X : Type 0} → (ℕ → X) → ℕ → List X
list_upto f zero = []
list_upto f (suc n) = list_upto f n ++ f n ∷ []

-- the list of what there is
abbrev pub option_list : {X : Type 0} → Option X → List X
option_list None = []
option_list (Some x) = x ∷ []

-- an End word whose time has come or never comes
abbrev pub timeless_end : EndRecord → EndRecord
timeless_end (Until time) = Until (if nat_lt time infinity then 0 else infinity)
timeless_end (Lock readers writer no_more) = Lock readers writer no_more

-- the time at which a version ended; 0 if it has not
abbrev pub until_time : EndRecord → ℕ
until_time (Until time) = if nat_lt time infinity then time else 0
until_time (Lock readers writer no_more) = 0

abbrev pub version_key : World → ℕ → VersionKey
version_key w v =
    record {
      key = (version_in w.versions v).key;
      value = (version_in w.versions v).value;
      begin = timeless_creator (begin_word w v);
      end = timeless_end (end_word w v);
    }

-- which versions were made, which ended, and which transactions were prepared after a time
abbrev pub after_time : World → ℕ → After
after_time w time =
    record {
      made = list_upto (λ v. nat_lt time (made_time (begin_word w v))) (length w.versions);
      ended = list_upto (λ v. nat_lt time (until_time (end_word w v))) (length w.versions);
      prepared = list_upto (λ i. is_prepared (txn_in w.txns (i + 1)).state && nat_lt time (txn_in w.txns (i + 1)).end) (length w.txns);
    }

-- what comes after the begin of a transaction, if it may still read as of it
abbrev pub look_of : World → ℕ → Option After
look_of w t = if looks_back (txn_in w.txns t) then Some (after_time w (txn_in w.txns t).begin) else None

-- what a program sees of a transaction, what it did that counts, and how it ended
pub record TxnShape : Type 0 where
  pub level : Level
  pub state : State
  pub no_more_waits : Bool
  pub abort_now : Bool
  pub reads : List ℕ
  pub writes : List WriteEntry
  pub buckets : List ℕ
  pub waiters : List ℕ
  pub dependents : List ℕ
  pub look : Option After
  pub part : List (Event × Reply)
  pub ending : Ending

abbrev pub txn_shape : World → List Entry → ℕ → TxnShape
txn_shape w h t =
    record {
      level = (txn_in w.txns t).level;
      state = (txn_in w.txns t).state;
      no_more_waits = (txn_in w.txns t).no_more_waits;
      abort_now = (txn_in w.txns t).abort_now;
      reads = read_set w t;
      writes = write_set w t;
      buckets = bucket_set w t;
      waiters = waiting_list w t;
      dependents = dependents_of w t;
      look = look_of w t;
      part = judged_part t (steps_in h);
      ending = end_in t h;
    }

pub record Shape : Type 0 where
  pub versions : List VersionKey
  pub txns : List TxnShape
  pub places : List Place
  pub drawn : List ℕ
  pub waited : Bool

abbrev pub shape_in : World → List Place → List Entry → Shape
shape_in w places h =
    record {
      versions = list_upto (version_key w) (length w.versions);
      txns = list_upto (λ i. txn_shape w h (i + 1)) (length w.txns);
      places = places;
      drawn = drawn_in (steps_in h);
      waited = has_wait h;
    }

-- the world with its versions by group, in each group in order
abbrev pub sorted_by : (ℕ → ℕ) → World → World
sorted_by group w = renumbered (by_group group w) w

-- the key of a play that has led to these places
abbrev pub shape_of : Plan → List Place → List Entry → Shape
shape_of p places h = shape_in (sorted_by (group_in p) (world_after p h)) places h
