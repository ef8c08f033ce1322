-- One event: which events may need memory, and what a step of a machine is; and runs of many events.
use Rattle.std.specs.Prelude.{◌≡◌, ◌≤◌, ℕ, Bool, true, false, ◌&&◌, Some, List, [], map, slice_get, length}
use Rattle.std.specs.List.{zip}
use Rattle.hek_rules.specs.declared.event.Event.{Event}
use Rattle.hek_rules.specs.declared.event.Event.TheVariants as event
use Rattle.hek_rules.specs.declared.reply.Reply.{Reply}
use Rattle.hek_rules.specs.declared.reply.Reply.TheVariants as replies
use Rattle.hek_rules.specs.Events.{txn_of}
use Rattle.hek_rules.specs.Table.{passes}
use Rattle.hek_rules.specs.World.{World}
use Rattle.hek_rules.specs.Run.{next, reply, run, transcript}
use Rattle.hek_rules.specs.Plan.{Plan, levels_of}
use Rattle.hek_rules.specs.Recorded.{Recorded}
use Rattle.hek_rules.specs.Serial.{serial_map}
use Rattle.hek_rules.specs.Faults.{put_all, is_declared, HasNoFault}
use Rattle.hek_machine.specs.declared.engine.Engine.{Engine}
use Rattle.hek_rules.specs.Shown.{committed_rows}
use Rattle.hek_machine.specs.Judgements.{IsShown}
use Rattle.hek_machine.specs.Stands.{StandsFor}
use Rattle.hek_machine.specs.Observed.{opening_of}

-- the events that read or write rows, or search for a deadlock
abbrev pub takes_memory : Event → Bool
takes_memory (event.Read t key) = true
takes_memory (event.Scan t bucket) = true
takes_memory (event.Insert t key value) = true
takes_memory (event.Update t key value) = true
takes_memory (event.Delete t key) = true
takes_memory event.Detect = true
takes_memory e = false

-- in each world that the parts stand for, the event needs no memory or does not pass the checks
abbrev pub NeedsNone : Engine → Event → Type 0
NeedsNone m e = (w : World) → StandsFor m w → (takes_memory e && passes w e) ≡ false

-- for each world that the old parts stand for: the answer is the table's, and the new parts stand for the next world
pub record IsMachineStep (e : Event) (before after : Engine) (answer : Reply) : Type 0 where
  pub reply : (w : World) → StandsFor before w → answer ≡ reply w e
  pub world : (w : World) → StandsFor before w → StandsFor after (next w e)

-- a run of these events over a plan: the reply to each event in turn, and the machine at the end
pub record IsRun (p : Plan) (clock : ℕ) (events : List Event) (answers : List Reply) (m : Engine) : Type 0 where
  pub replies : answers ≡ map (λ (x : Event × Reply). x.1) (transcript (opening_of p clock) events)
  pub machine : StandsFor m (run (opening_of p clock) events)

-- the record of a run that a checker judges
abbrev pub recorded_of : Plan → List Event → List Reply → Recorded
recorded_of p events replies = record { buckets = p.buckets; rows = p.rows; levels = levels_of p; history = zip events replies }

-- serial order: no event of a declared transaction is at fault
abbrev pub HasNoFaults : Plan → List Event → List Reply → Type 0
HasNoFaults p events replies =
    (i : ℕ) (e : Event) →
    slice_get events i ≡ Some e →
    is_declared (levels_of p) (txn_of e) ≡ true →
    HasNoFault (recorded_of p events replies) i

-- the loaded rows under the writes of the committed transactions, laid over them one transaction after another by end
-- time
abbrev pub serial_rows_of : Plan → List Event → List Reply → List (ℕ × ℕ)
serial_rows_of p events replies = serial_map (zip events replies) (put_all p.rows [])

-- the committed rows of the machine are `serial_rows_of`
abbrev pub RowsAreSerial : Plan → List Event → List Reply → Engine → Type 0
RowsAreSerial p events replies m = (rows : List (ℕ × ℕ)) → IsShown m committed_rows rows → rows ≡ serial_rows_of p events replies

-- a reply has at most as many pairs as there are versions, and as many members as there are transactions
abbrev pub IsSmall : World → Reply → Type 0
IsSmall w (replies.Rows pairs) = length pairs ≤ length w.versions
IsSmall w (replies.Victim t cycle) = length cycle ≤ length w.txns
IsSmall w r = Unit {0}
