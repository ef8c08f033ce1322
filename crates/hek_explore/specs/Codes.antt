-- The code of a key: all that the key has, as one list of bytes. Equal codes come of equal keys (proofs/Codes).
use Rattle.std.specs.List.{flat_map}
use Rattle.std.specs.Prelude.{ℕ, zero, suc, ◌+◌, ◌/◌, ◌%◌, Bool, true, false, nat_lt, if◌then◌else◌, List, [], ◌∷◌, ◌++◌, Option, Some, None, length}
use Rattle.hek_rules.specs.declared.event.Cause.{Cause}
use Rattle.hek_rules.specs.declared.event.Cause.TheVariants as cause
use Rattle.hek_rules.specs.declared.event.Event.{Event}
use Rattle.hek_rules.specs.declared.event.Level.{Level}
use Rattle.hek_rules.specs.declared.event.Level.TheVariants.{Serializable, Repeatable, Snapshot}
use Rattle.hek_rules.specs.declared.event.State.{State}
use Rattle.hek_rules.specs.declared.event.State.TheVariants as state
use Rattle.hek_rules.specs.declared.event.WriteEntry.{WriteEntry}
use Rattle.hek_rules.specs.declared.event.WriteEntry.TheVariants.{BeginOf, EndOf}
use Rattle.hek_rules.specs.declared.reply.Reply.{Reply}
use Rattle.hek_rules.specs.declared.reply.Reply.TheVariants as reply
use Rattle.hek_rules.specs.declared.word.BeginRecord.{BeginRecord}
use Rattle.hek_rules.specs.declared.word.BeginRecord.TheVariants.{At, By}
use Rattle.hek_rules.specs.declared.word.EndRecord.{EndRecord}
use Rattle.hek_rules.specs.declared.word.EndRecord.TheVariants.{Until, Lock}
use Rattle.hek_rules.specs.Events.{kind_of, opcode_of, txn_of, first_of, second_of}
use Rattle.hek_rules.specs.Names.{refusal_number}
use Rattle.hek_rules.specs.Plan.{Plan}
use Rattle.hek_similar.specs.Forms.{After}
use Rattle.hek_worker.specs.declared.entry.Entry.{Entry}
use Rattle.hek_worker.specs.declared.stage.Stage.{Stage}
use Rattle.hek_worker.specs.declared.stage.Stage.TheVariants as stage
use Rattle.hek_permute.specs.declared.outcome.Ending.{Ending}
use Rattle.hek_permute.specs.declared.outcome.Ending.TheVariants as ending
use Rattle.hek_permute.specs.declared.play.Place.{Place}
use Rattle.hek_explore.specs.declared.key.VersionKey.{VersionKey}
use Rattle.hek_explore.specs.Keys.{Shape, TxnShape, shape_of}

-- ---- numbers and lists
-- a number by its lowest seven bits and, if it is not below 128, the others; at most so many times
unfoldable pub digits : ℕ → ℕ → List ℕ
digits zero n = n ∷ []
digits (suc more) n = if nat_lt n 128 then n ∷ [] else (128 + n % 128) ∷ digits more (n / 128)

-- a number of 64 bits takes up to ten bytes
abbrev pub number : ℕ → List ℕ
number n = digits 9 n

abbrev pub flag : Bool → List ℕ
flag true = 1 ∷ []
flag false = 0 ∷ []

-- how many items there are, and each
abbrev pub listed : {X : Type 0} → (X → List ℕ) → List X → List ℕ
listed code xs = number (length xs) ++ flat_map code xs

abbrev pub optional : {X : Type 0} → (X → List ℕ) → Option X → List ℕ
optional code None = 0 ∷ []
optional code (Some x) = 1 ∷ code x

abbrev pub pair : {X Y : Type 0} → (X → List ℕ) → (Y → List ℕ) → X × Y → List ℕ
pair first second p = first p.0 ++ second p.1

-- ---- versions
abbrev pub begin_code : BeginRecord → List ℕ
begin_code (At time) = 0 ∷ number time
begin_code (By t) = 1 ∷ number t

abbrev pub end_code : EndRecord → List ℕ
end_code (Until time) = 0 ∷ number time
end_code (Lock readers writer no_more) = 1 ∷ number readers ++ (optional number writer ++ flag no_more)

abbrev pub version_code : VersionKey → List ℕ
version_code v = number v.key ++ (number v.value ++ (begin_code v.begin ++ end_code v.end))

-- ---- what a transaction did
abbrev pub cause_number : Cause → ℕ
cause_number cause.Cascade = 0
cause_number cause.Conflict = 1
cause_number cause.NoMoreReads = 2
cause_number cause.ReadersFull = 3
cause_number cause.NoMoreWaits = 4
cause_number cause.Deadlock = 5
cause_number cause.Asked = 6

abbrev pub event_code : Event → List ℕ
event_code e = opcode_of (kind_of e) ∷ optional number (txn_of e) ++ (number (first_of e) ++ number (second_of e))

abbrev pub reply_kind : Reply → ℕ
reply_kind (reply.Began time) = 0
reply_kind (reply.Found value) = 1
reply_kind reply.Absent = 2
reply_kind (reply.Rows pairs) = 3
reply_kind reply.Done = 4
reply_kind reply.Exists = 5
reply_kind reply.Ready = 6
reply_kind (reply.Waiting count) = 7
reply_kind (reply.Precommitted time) = 8
reply_kind (reply.ReleasedRead v writer) = 9
reply_kind (reply.ReleasedBucket bucket) = 10
reply_kind (reply.ReleasedWaiter t) = 11
reply_kind reply.Nothing = 12
reply_kind reply.Committed = 13
reply_kind (reply.WaitingCommits count) = 14
reply_kind reply.Failed = 15
reply_kind (reply.StampedBegin v) = 16
reply_kind (reply.StampedEnd v) = 17
reply_kind (reply.Left v) = 18
reply_kind reply.Over = 19
reply_kind reply.NoCycle = 20
reply_kind (reply.Victim t members) = 21
reply_kind (reply.Aborted why) = 22
reply_kind (reply.Refused why) = 23

-- the number that a reply has; 0 if it has none
abbrev pub reply_number : Reply → ℕ
reply_number (reply.Began time) = time
reply_number (reply.Found value) = value
reply_number (reply.Waiting count) = count
reply_number (reply.Precommitted time) = time
reply_number (reply.ReleasedRead v writer) = v
reply_number (reply.ReleasedBucket bucket) = bucket
reply_number (reply.ReleasedWaiter t) = t
reply_number (reply.WaitingCommits count) = count
reply_number (reply.StampedBegin v) = v
reply_number (reply.StampedEnd v) = v
reply_number (reply.Left v) = v
reply_number (reply.Victim t members) = t
reply_number (reply.Aborted why) = cause_number why
reply_number (reply.Refused why) = refusal_number why
reply_number other = 0

abbrev pub reply_pairs : Reply → List (ℕ × ℕ)
reply_pairs (reply.Rows pairs) = pairs
reply_pairs other = []

-- the transactions that a reply has beside its number
abbrev pub reply_members : Reply → List ℕ
reply_members (reply.Victim t members) = members
reply_members other = []

abbrev pub reply_writer : Reply → Option ℕ
reply_writer (reply.ReleasedRead v writer) = writer
reply_writer other = None

abbrev pub reply_code : Reply → List ℕ
reply_code r =
    reply_kind r ∷ number (reply_number r)
    ++ (listed (pair number number) (reply_pairs r) ++ (listed number (reply_members r) ++ optional number (reply_writer r)))

-- ---- transactions
abbrev pub level_number : Level → ℕ
level_number Serializable = 0
level_number Repeatable = 1
level_number Snapshot = 2

abbrev pub state_number : State → ℕ
state_number state.NotBegun = 0
state_number state.Active = 1
state_number state.Preparing = 2
state_number state.Committed = 3
state_number state.Terminated = 4
state_number (state.Aborted why) = 5 + cause_number why

abbrev pub ending_number : Ending → ℕ
ending_number ending.Committed = 0
ending_number ending.Unended = 1
ending_number (ending.Aborted why) = 2 + cause_number why

abbrev pub entry_code : WriteEntry → List ℕ
entry_code (BeginOf v) = 0 ∷ number v
entry_code (EndOf v) = 1 ∷ number v

abbrev pub look_code : After → List ℕ
look_code a = listed flag a.made ++ (listed flag a.ended ++ listed flag a.prepared)

abbrev pub words_code : TxnShape → List ℕ
words_code t = level_number t.level ∷ state_number t.state ∷ ending_number t.ending ∷ flag t.no_more_waits ++ flag t.abort_now

abbrev pub lists_code : TxnShape → List ℕ
lists_code t =
    listed number t.reads ++ (listed entry_code t.writes ++ (listed number t.buckets ++ (listed number t.waiters ++ listed number t.dependents)))

abbrev pub txn_code : TxnShape → List ℕ
txn_code t = words_code t ++ (lists_code t ++ (optional look_code t.look ++ listed (pair event_code reply_code) t.part))

-- ---- the whole key
abbrev pub stage_kind : Stage → ℕ
stage_kind stage.Start = 0
stage_kind (stage.Working place) = 1
stage_kind stage.Preparing = 2
stage_kind stage.Looking = 3
stage_kind stage.GivingUp = 4
stage_kind (stage.Releasing aborted) = if aborted then 5 else 6
stage_kind stage.Committing = 7
stage_kind (stage.Stamping aborted) = if aborted then 8 else 9
stage_kind stage.Ending = 10
stage_kind stage.Ended = 11

-- the step at which a transaction is; 0 if it is at none
abbrev pub stage_step : Stage → ℕ
stage_step (stage.Working place) = place
stage_step other = 0

abbrev pub place_code : Place → List ℕ
place_code p = stage_kind p.stage ∷ number (stage_step p.stage) ++ (number p.moves ++ flag p.waits)

abbrev pub shape_code : Shape → List ℕ
shape_code s =
    listed version_code s.versions ++ (listed txn_code s.txns ++ (listed place_code s.places ++ (listed number s.drawn ++ flag s.waited)))

-- the code of a play that has led to these places
abbrev pub code_of : Plan → List Place → List Entry → List ℕ
code_of p places h = shape_code (shape_of p places h)
