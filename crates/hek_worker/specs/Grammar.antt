-- What a worker does, step by step: its next event at each position, and the position after each reply.
use Rattle.std.specs.Prelude.{ℕ, ◌≡◌, ◌+◌, ◌-◌, Bool, true, false, ◌==◌, nat_lt, if◌then◌else◌, Option, Some, None, List, [], ◌∷◌, length, filter, slice_get}
use Rattle.hek_rules.specs.declared.event.Event.{Event}
use Rattle.hek_rules.specs.declared.event.Event.TheVariants.{Begin, Read, Scan, Insert, Update, Delete, Finish, Precommit, Release, Commit, Fail, Stamp, End, Detect}
use Rattle.hek_rules.specs.declared.reply.Reply.{Reply}
use Rattle.hek_rules.specs.declared.reply.Reply.TheVariants.{Began, Found, Absent, Rows, Done, Exists, Ready, Waiting, Precommitted, ReleasedRead, ReleasedBucket, ReleasedWaiter, Nothing, Committed, WaitingCommits, Failed, StampedBegin, StampedEnd, Left, Over, NoCycle, Victim, Aborted}
use Rattle.hek_worker.specs.declared.stage.Stage.{Stage}
use Rattle.hek_worker.specs.declared.stage.Stage.TheVariants.{Start, Working, Preparing, Looking, GivingUp, Releasing, Committing, Stamping, Ending, Ended}
use Rattle.hek_worker.specs.declared.stage.Position.{Position}

-- a read or a write of this transaction
abbrev pub is_work : ℕ → Event → Bool
is_work t (Read u key) = u == t
is_work t (Scan u bucket) = u == t
is_work t (Insert u key value) = u == t
is_work t (Update u key value) = u == t
is_work t (Delete u key) = u == t
is_work t _ = false

-- the reads and writes of one transaction, in order
abbrev pub work_of : ℕ → List Event → List Event
work_of t es = filter (is_work t) es

abbrev pub or_finish : ℕ → Option Event → Event
or_finish t (Some e) = e
or_finish t None = Finish t

-- the worker's next event
abbrev pub event_at : ℕ → List Event → Stage → Event
event_at t work Start = Begin t
event_at t work (Working n) = or_finish t (slice_get work n)
event_at t work Preparing = Precommit t
event_at t work Looking = Detect
event_at t work GivingUp = Fail t
event_at t work (Releasing cut) = Release t
event_at t work Committing = Commit t
event_at t work (Stamping cut) = Stamp t
event_at t work Ending = End t
event_at t work Ended = End t

abbrev pub at : Stage → ℕ → Option Position
at s n = Some (record { stage = s; turns = n })

-- whether an event of this kind can have the reply
abbrev pub answers : Event → Reply → Bool
answers (Read t key) (Found value) = true
answers (Read t key) Absent = true
answers (Scan t bucket) (Rows pairs) = true
answers (Insert t key value) Done = true
answers (Insert t key value) Exists = true
answers (Update t key value) Done = true
answers (Update t key value) Absent = true
answers (Delete t key) Done = true
answers (Delete t key) Absent = true
answers (Finish t) Ready = true
answers _ _ = false

abbrev pub worked : List Event → ℕ → ℕ → Option Position
worked work i n = if nat_lt i (length work) then at (Working (i + 1)) n else at Preparing n

abbrev pub after_start : ℕ → Reply → Option Position
after_start n (Began time) = at (Working 0) n
after_start n (Aborted c) = at (Releasing true) n
after_start n _ = None

abbrev pub after_work : ℕ → List Event → ℕ → ℕ → Reply → Option Position
after_work t work i n (Aborted c) = at (Releasing true) n
after_work t work i n r = if answers (event_at t work (Working i)) r then worked work i n else None

abbrev pub after_precommit : ℕ → Reply → Option Position
after_precommit n (Waiting k) = if n == 0 then at GivingUp 0 else at Looking (n - 1)
after_precommit n (Precommitted time) = at (Releasing false) n
after_precommit n (Aborted c) = at (Releasing true) n
after_precommit n _ = None

abbrev pub after_look : ℕ → Reply → Option Position
after_look n NoCycle = at Preparing n
after_look n (Victim t cycle) = at Preparing n
after_look n _ = None

abbrev pub after_fail : ℕ → Reply → Option Position
after_fail n Failed = at (Releasing true) n
after_fail n (Aborted c) = at (Releasing true) n
after_fail n _ = None

abbrev pub after_release : Bool → ℕ → Reply → Option Position
after_release cut n (ReleasedRead v writer) = at (Releasing cut) n
after_release cut n (ReleasedBucket bucket) = at (Releasing cut) n
after_release cut n (ReleasedWaiter t) = at (Releasing cut) n
after_release cut n Nothing = if cut then at (Stamping true) n else at Committing n
after_release cut n (Aborted c) = if cut then None else at (Releasing true) n
after_release cut n _ = None

abbrev pub after_commit : ℕ → Reply → Option Position
after_commit n (WaitingCommits k) = if n == 0 then at GivingUp 0 else at Committing (n - 1)
after_commit n Committed = at (Stamping false) n
after_commit n (Aborted c) = at (Releasing true) n
after_commit n _ = None

abbrev pub after_stamp : Bool → ℕ → Reply → Option Position
after_stamp cut n (StampedBegin v) = at (Stamping cut) n
after_stamp cut n (StampedEnd v) = at (Stamping cut) n
after_stamp cut n (Left v) = at (Stamping cut) n
after_stamp cut n Nothing = at Ending n
after_stamp cut n _ = None

abbrev pub after_end : ℕ → Reply → Option Position
after_end n Over = at Ended n
after_end n _ = None

-- the position after a reply; None if the next event cannot have this reply
abbrev pub position_after : ℕ → List Event → Stage → ℕ → Reply → Option Position
position_after t work Start n r = after_start n r
position_after t work (Working i) n r = after_work t work i n r
position_after t work Preparing n r = after_precommit n r
position_after t work Looking n r = after_look n r
position_after t work GivingUp n r = after_fail n r
position_after t work (Releasing cut) n r = after_release cut n r
position_after t work Committing n r = after_commit n r
position_after t work (Stamping cut) n r = after_stamp cut n r
position_after t work Ending n r = after_end n r
position_after t work Ended n r = None

-- these events and replies lead from position p to position q
abbrev pub Leads : ℕ → List Event → Position → List (Event × Reply) → Position → Type 0
Leads t work p [] q = p ≡ q
Leads t work p (x ∷ xs) q =
    (x.0 ≡ event_at t work p.stage)
    × ((m : Position) × (position_after t work p.stage p.turns x.1 ≡ Some m) × Leads t work m xs q)

abbrev pub begin_at : ℕ → Position
begin_at turns = record { stage = Start; turns = turns }

abbrev pub end_at : ℕ → Position
end_at left = record { stage = Ended; turns = left }

-- a whole transcript of the transaction t, whose reads and writes are work
abbrev pub IsTranscript : ℕ → List Event → ℕ → List (Event × Reply) → Type 0
IsTranscript t work turns xs = (left : ℕ) × Leads t work (begin_at turns) xs (end_at left)

-- the ID of the transaction at a place, from 0
abbrev pub worker_at : ℕ → ℕ
worker_at i = i + 1

-- one transcript for each transaction, in order from 1
abbrev pub AreTranscripts : List Event → ℕ → List (List (Event × Reply)) → Type 0
AreTranscripts steps turns parts =
    (i : ℕ) (p : List (Event × Reply)) → slice_get parts i ≡ Some p
    → IsTranscript (worker_at i) (work_of (i + 1) steps) turns p
