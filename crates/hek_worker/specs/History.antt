-- Histories: which worker made which event, and what was answered.
use Rattle.std.specs.Prelude.{ℕ, Bool, true, ◌==◌, IsTrue, Option, Some, None, List, length, map, filter}
use Rattle.std.specs.List.{All}
use Rattle.hek_rules.specs.declared.event.Event.{Event}
use Rattle.hek_rules.specs.declared.reply.Reply.{Reply}
use Rattle.hek_rules.specs.Events.{txn_of}
use Rattle.hek_rules.specs.Plan.{Plan, IsPlan, IsDeclared, levels_of}
use Rattle.hek_rules.specs.Recorded.{Recorded}
use Rattle.hek_rules.specs.Faults.{HasNoFault}
use Rattle.hek_rules.specs.World.{World}
use Rattle.hek_rules.specs.Run.{run}
use Rattle.hek_laws.specs.Runs.{IsPlaced}
use Rattle.hek_machine.specs.declared.engine.Engine.{Engine}
use Rattle.hek_machine.specs.Observed.{opening_of}
use Rattle.hek_machine.specs.Steps.{IsRun, recorded_of}
use Rattle.hek_worker.specs.declared.entry.Entry.{Entry}
use Rattle.hek_worker.specs.Kept.{Kept}

abbrev pub is_that : ℕ → Option ℕ → Bool
is_that t None = true
is_that t (Some u) = u == t

-- the event is this transaction's, or a search for a deadlock
abbrev pub is_own : ℕ → Event → Bool
is_own t e = is_that t (txn_of e)

-- one of the declared transactions made an event that it may make
abbrev pub IsEntry : ℕ → Entry → Type 0
IsEntry txns x = IsDeclared txns x.worker × IsTrue (is_own x.worker x.event)

abbrev pub IsHistory : ℕ → List Entry → Type 0
IsHistory txns xs = All (IsEntry txns) xs

abbrev pub history_events : List Entry → List Event
history_events xs = map (λ x. x.event) xs

abbrev pub replies_in : List Entry → List Reply
replies_in xs = map (λ x. x.reply) xs

-- the transcript of a history, as a checker reads it
abbrev pub recorded_by : Plan → List Entry → Recorded
recorded_by p xs = record { buckets = p.buckets; rows = p.rows; levels = levels_of p; history = map (λ x. (x.event, x.reply)) xs }

-- the events and replies of one worker, in order
abbrev pub part_of : ℕ → List Entry → List (Event × Reply)
part_of t xs = map (λ x. (x.event, x.reply)) (filter (λ x. x.worker == t) xs)

-- a worker may make an event: it is declared, the event is its own, and a scan's bucket exists
abbrev pub MayStep : Plan → ℕ → Event → Type 0
MayStep p t e = IsDeclared (length p.txns) t × IsTrue (is_own t e) × IsPlaced p.buckets e

-- the world of the rule table after a history
abbrev pub world_of : Kept → World
world_of k = run (opening_of k.plan 1) (history_events k.history)

-- the history is well formed, its replies are those of the rule table, event by event, and the machine represents the
-- table's world after it
pub record Replays (p : Plan) (machine : Engine) (history : List Entry) : Type 0 where
  pub plan : IsPlan p
  pub formed : IsHistory (length p.txns) history
  pub ran : IsRun p 1 (history_events history) (replies_in history) machine

-- serial order: no event of the history is at fault
abbrev pub IsSerialHistory : Plan → List Entry → Type 0
IsSerialHistory p history = (i : ℕ) → HasNoFault (recorded_of p (history_events history) (replies_in history)) i
