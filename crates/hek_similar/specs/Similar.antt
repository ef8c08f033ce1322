-- Similar worlds: equal but for their times, whose order is the same wherever a transaction may still ask for it.
use Rattle.std.specs.Prelude.{◌≡◌, ℕ, Bool, true, false, ◌&&◌, nat_lt, if◌then◌else◌, List, map}
use Rattle.hek_rules.specs.declared.event.Level.{Level}
use Rattle.hek_rules.specs.declared.event.Level.TheVariants.{Serializable, Repeatable, Snapshot}
use Rattle.hek_rules.specs.declared.event.Event.{Event}
use Rattle.hek_rules.specs.declared.reply.Reply.{Reply}
use Rattle.hek_rules.specs.declared.reply.Reply.TheVariants as reply
use Rattle.hek_rules.specs.declared.word.BeginRecord.{BeginRecord}
use Rattle.hek_rules.specs.declared.word.BeginRecord.TheVariants.{At, By}
use Rattle.hek_rules.specs.Words.{infinity}
use Rattle.hek_rules.specs.World.{World, Version, Ender, EndedAt, Held, Txn, txn_in, version_in, is_prepared}
use Rattle.hek_rules.specs.Checks.{is_open}

-- ---- without times

-- a version that was made at some time, or that never will be
abbrev pub timeless_creator : BeginRecord → BeginRecord
timeless_creator (At time) = At (if nat_lt time infinity then 0 else infinity)
timeless_creator (By u) = By u

abbrev pub timeless_ender : Ender → Ender
timeless_ender (EndedAt time) = EndedAt 0
timeless_ender (Held writer no_more) = Held writer no_more

abbrev pub timeless_version : Version → Version
timeless_version x = record x { creator = timeless_creator x.creator; ender = timeless_ender x.ender }

abbrev pub timeless_txn : Txn → Txn
timeless_txn x = record x { begin = 0; end = 0 }

-- the world with each time left out
abbrev pub timeless : World → World
timeless w = record w { clock = 0; versions = map timeless_version w.versions; txns = map timeless_txn w.txns }

-- the reply with its time left out, if it has one
abbrev pub timeless_reply : Reply → Reply
timeless_reply (reply.Began time) = reply.Began 0
timeless_reply (reply.Precommitted time) = reply.Precommitted 0
timeless_reply r = r

-- an event and its reply, with the reply's time left out
abbrev pub timeless_step : Event × Reply → Event × Reply
timeless_step p = (p.0, timeless_reply p.1)

-- ---- the order of times

-- the time of a word; 0 if the word has none
abbrev pub made_time : BeginRecord → ℕ
made_time (At time) = time
made_time (By u) = 0

abbrev pub ended_time : Ender → ℕ
ended_time (EndedAt time) = time
ended_time (Held writer no_more) = 0

abbrev pub is_snapshot : Level → Bool
is_snapshot Serializable = false
is_snapshot Repeatable = false
is_snapshot Snapshot = true

-- a transaction that may still read as of its begin: a snapshot one, Active, not finished
abbrev pub looks_back : Txn → Bool
looks_back x = is_snapshot x.level && is_open x

-- What comes after the time r among the versions vs and transactions ts is what comes after q among us and ss: the
-- makings and ends of versions, and the end times of Preparing and Committed transactions.
pub record LookAlike (vs us : List Version) (ts ss : List Txn) (r q : ℕ) : Type 0 where
  pub made : (v : ℕ) → nat_lt r (made_time (version_in vs v).creator) ≡ nat_lt q (made_time (version_in us v).creator)
  pub ended : (v : ℕ) → nat_lt r (ended_time (version_in vs v).ender) ≡ nat_lt q (ended_time (version_in us v).ender)
  pub prepared : (u : ℕ) → is_prepared (txn_in ts u).state ≡ true → nat_lt r (txn_in ts u).end ≡ nat_lt q (txn_in ss u).end

-- the worlds are equal without their times, and each transaction that may still read as of its begin finds the same
-- before its begin, and the same after it, in both
pub record Similar (w x : World) : Type 0 where
  pub same : timeless w ≡ timeless x
  pub looks : (t : ℕ) → looks_back (txn_in w.txns t) ≡ true → LookAlike w.versions x.versions w.txns x.txns (txn_in w.txns t).begin (txn_in x.txns t).begin
