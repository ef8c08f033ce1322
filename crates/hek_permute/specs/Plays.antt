-- The play of an order: who makes which event next, and what its reply changes. What a transaction's step does depends on
-- the transaction's own replies so far.
use Rattle.std.specs.Prelude.{ℕ, zero, suc, ◌≡◌, ◌+◌, Bool, true, false, not, ◌==◌, ◌&&◌, ◌||◌, nat_lt, nat_le, if◌then◌else◌, Option, Some, None, option_map, option_and_then, List, [], ◌∷◌, ◌++◌, drop, filter, length, map, replicate, slice_get, slice_set}
use Rattle.hek_rules.specs.declared.event.Event.{Event}
use Rattle.hek_rules.specs.declared.event.Event.TheVariants.{Fail, Finish, Detect}
use Rattle.hek_rules.specs.declared.reply.Reply.{Reply}
use Rattle.hek_rules.specs.declared.reply.Reply.TheVariants.{Aborted, Victim}
use Rattle.hek_rules.specs.Serial.{is_of}
use Rattle.hek_program.specs.declared.rule.Act.{Act}
use Rattle.hek_program.specs.declared.rule.Act.TheVariants.{Makes, Skips, Fails}
use Rattle.hek_program.specs.Acts.{act_of}
use Rattle.hek_program.specs.Told.{seen_by}
use Rattle.hek_worker.specs.declared.entry.Entry.{Entry}
use Rattle.hek_worker.specs.declared.stage.Stage.{Stage}
use Rattle.hek_worker.specs.declared.stage.Stage.TheVariants.{Start, Working, Preparing, GivingUp, Releasing, Ended}
use Rattle.hek_worker.specs.declared.stage.Position.{Position}
use Rattle.hek_worker.specs.Grammar.{answers, event_at, position_after}
use Rattle.hek_permute.specs.declared.moves.Form.{Form}
use Rattle.hek_permute.specs.declared.moves.Form.TheVariants.{Whole, Split, Event as ByEvent}
use Rattle.hek_permute.specs.declared.moves.Move.{Move}
use Rattle.hek_permute.specs.declared.play.Place.{Place}
use Rattle.hek_permute.specs.declared.play.Turn.{Turn}
use Rattle.hek_permute.specs.declared.play.Turn.TheVariants.{Goes, Asks, Looks, Rests}
use Rattle.hek_permute.specs.Moves.{Work, other_moves}
use Rattle.hek_permute.specs.Outcomes.{is_wait}

-- ---- one transaction

-- how many moves come before the first read or write
abbrev pub before_work : Form → ℕ
before_work ByEvent = 1
before_work form = 0

-- how many moves beside the reads and writes come before `precommit`
abbrev pub before_precommit : Form → ℕ
before_precommit ByEvent = 2
before_precommit form = 0

-- a transaction's own events in a history, each with its reply
abbrev pub own_of : ℕ → List Entry → List (Event × Reply)
own_of t h = filter (λ (p : Event × Reply). is_of t p.0) (map (λ (x : Entry). (x.event, x.reply)) h)

-- what each step of a transaction does by its own replies so far, how many steps there are, and whether it fails in the
-- end
pub record Shown : Type 0 where
  pub acts : List Act
  pub count : ℕ
  pub fails : Bool

-- a transaction's steps after its own events
abbrev pub shown : Work → List (Event × Reply) → Shown
shown w own =
    record { acts = map (λ (m : Move). act_of (seen_by w.buckets own) m.event m.rule) w.steps; count = length w.steps; fails = w.fails }

-- the steps of t after a history
abbrev pub shown_to : Work → ℕ → List Entry → Shown
shown_to w t h = shown w (own_of t h)

-- how many acts at the front are skipped
abbrev pub skips : List Act → ℕ
skips [] = 0
skips (Skips ∷ acts) = skips acts + 1
skips (act ∷ acts) = 0

-- the first place from i on whose step is not skipped
abbrev pub ahead : List Act → ℕ → ℕ
ahead acts i = i + skips (drop i acts)

-- how many moves a transaction has
abbrev pub all_moves : Form → Shown → ℕ
all_moves form s = s.count + other_moves form

-- whether a transaction's next event belongs to one of its first n moves; what an aborted transaction gives back
-- belongs to any move
abbrev pub may_go : Form → Shown → ℕ → Stage → Bool
may_go form s n Start = nat_lt 0 n
may_go form s n (Working i) = nat_lt (before_work form + ahead s.acts i) n
may_go form s n Preparing = nat_lt (before_precommit form + s.count) n
may_go form s n (Releasing false) = nat_le (all_moves form s) n
may_go form s n Ended = false
may_go form s n stage = true

-- what a transaction does at the place of a step: it fails where the step does, and one that fails in the end where its
-- last move is due
abbrev pub worked_at : Form → Bool → ℕ → Option Act → Stage
worked_at form fails i (Some Fails) = GivingUp
worked_at form fails i (Some act) = Working i
worked_at Whole fails i None = if fails then GivingUp else Working i
worked_at form fails i None = Working i

-- what a transaction does next: steps that are skipped are passed over
abbrev pub turned : Form → Shown → Stage → Stage
turned form s (Working i) = worked_at form s.fails (ahead s.acts i) (slice_get s.acts (ahead s.acts i))
turned Split s (Releasing false) = if s.fails then GivingUp else Releasing false
turned ByEvent s (Releasing false) = if s.fails then GivingUp else Releasing false
turned form s stage = stage

-- whether it fails while it waits: all its moves have come, the last of which is `fail`
abbrev pub gives_up : ℕ → Bool → Place → Bool
gives_up all fails p = p.waits && fails && nat_le all p.moves

-- the stage that decides its next event
abbrev pub due : Form → Shown → Place → Stage
due form s p = if gives_up (all_moves form s) s.fails p then GivingUp else turned form s p.stage

-- whether it goes no further: it waits and does not fail, or its next event belongs to a later move
abbrev pub rests : Form → Shown → Place → Bool
rests form s p = (p.waits && not (gives_up (all_moves form s) s.fails p)) || not (may_go form s p.moves p.stage)

-- the event of a step; past the last one there is `finish`
abbrev pub step_event : ℕ → Option Act → Event
step_event t (Some (Makes e)) = e
step_event t (Some act) = Fail t
step_event t None = Finish t

-- t's event at a stage
abbrev pub event_by : ℕ → Shown → Stage → Event
event_by t s (Working i) = step_event t (slice_get s.acts i)
event_by t s stage = event_at t [] stage

-- the next event of the transaction at place i
abbrev pub event_of : Form → ℕ → Shown → Place → Event
event_of form i s p = event_by (i + 1) s (due form s p)

-- the stage after the reply to a step
abbrev pub after_step : Event → ℕ → ℕ → Reply → Option Stage
after_step e i count (Aborted c) = Some (Releasing true)
after_step e i count r = if answers e r then (if nat_lt i count then Some (Working (i + 1)) else Some Preparing) else None

abbrev pub stage_of : Position → Stage
stage_of q = q.stage

-- the stage after a reply, by the workers' grammar
abbrev pub stage_after : ℕ → Shown → Stage → Reply → Option Stage
stage_after t s (Working i) r = after_step (step_event t (slice_get s.acts i)) i s.count r
stage_after t s stage r = option_map stage_of (position_after t [] stage 0 r)

abbrev pub went : Place → Stage → Place
went p stage = record p { stage = stage; waits = false }

-- where it is after the reply: at the same stage if it must wait, otherwise at the next one
abbrev pub answered : Form → ℕ → Shown → Place → Reply → Option Place
answered form i s p r = if is_wait r then Some (record p { waits = true }) else option_map (went p) (stage_after (i + 1) s (due form s p) r)

-- ---- whose turn it is

abbrev pub is_running : Stage → Bool
is_running Start = false
is_running Ended = false
is_running s = true

abbrev pub is_over : Stage → Bool
is_over Ended = true
is_over s = false

abbrev pub some_wait : List Place → Bool
some_wait [] = false
some_wait (p ∷ ps) = p.waits || some_wait ps

abbrev pub none_runs_on : List Place → Bool
none_runs_on [] = true
none_runs_on (p ∷ ps) = (p.waits || not (is_running p.stage)) && none_runs_on ps

-- all transactions that have begun and not ended wait, and there are some
abbrev pub all_wait : List Place → Bool
all_wait places = some_wait places && none_runs_on places

abbrev pub is_it : Option ℕ → ℕ → Bool
is_it None i = false
is_it (Some k) i = k == i

abbrev pub is_past : Option ℕ → ℕ → Bool
is_past None i = true
is_past (Some k) i = nat_lt k i

-- the first place past one of a transaction that waits, but one; these places begin at i
abbrev pub first_asked : Option ℕ → Option ℕ → ℕ → List Place → Option ℕ
first_asked but past i [] = None
first_asked but past i (p ∷ ps) = if p.waits && is_past past i && not (is_it but i) then Some i else first_asked but past (i + 1) ps

-- the turn in a round in which nobody has got on: the next one that waits, past a place; after the last one a search if
-- all wait
abbrev pub asks : Option ℕ → Option ℕ → List Place → Turn
asks but past places = elim (first_asked but past 0 places) [ Some i ↦ Asks i but false | None ↦ if all_wait places then Looks else Rests ]

-- the turn in a round in which one has got on: after the last one all that wait are asked once more
abbrev pub asks_on : Option ℕ → Option ℕ → List Place → Turn
asks_on but past places = elim (first_asked but past 0 places) [ Some i ↦ Asks i but true | None ↦ asks None None places ]

-- one that was asked has got on if it need not wait
abbrev pub noted : Turn → Reply → Turn
noted (Asks i but got_on) r = Asks i but (got_on || not (is_wait r))
noted turn r = turn

-- the turn after that of one who goes no further: one who went on is followed by the others that wait
abbrev pub passed : Turn → List Place → Turn
passed (Goes i) places = asks (Some i) None places
passed (Asks i but got_on) places = if got_on then asks_on but (Some i) places else asks but (Some i) places
passed turn places = turn

-- ---- the next event

pub record Scene : Type 0 where
  pub places : List Place
  pub turn : Turn

-- what the transaction at a place does, and where it is
abbrev pub both : Option Shown → Option Place → Option (Shown × Place)
both (Some s) (Some p) = Some (s, p)
both s p = None

-- the transaction at a place, after a history
abbrev pub seat : List Work → List Entry → List Place → ℕ → Option (Shown × Place)
seat works h places i = both (option_map (λ w. shown_to w (i + 1) h) (slice_get works i)) (slice_get places i)

abbrev pub next_of : Form → ℕ → Shown × Place → ℕ × Event
next_of form i x = (i + 1, event_of form i x.0 x.1)

-- who makes which event next after a history; a search is t's, whose move came last
abbrev pub next_by : Form → List Work → ℕ → List Entry → List Place → Turn → Option (ℕ × Event)
next_by form works t h places (Goes i) = option_map (next_of form i) (seat works h places i)
next_by form works t h places (Asks i but got_on) = option_map (next_of form i) (seat works h places i)
next_by form works t h places Looks = Some (t, Detect)
next_by form works t h places Rests = None

abbrev pub next : Form → List Work → ℕ → List Entry → Scene → Option (ℕ × Event)
next form works t h s = next_by form works t h s.places s.turn

-- the transaction at place i has come to p: it goes on, or the turn passes
abbrev pub come_to : Form → ℕ → List Place → Turn → Shown → Place → Scene
come_to form i places turn s p =
    record { places = slice_set places i p; turn = if rests form s p then passed turn (slice_set places i p) else turn }

-- the scene after the reply to the event of the transaction at place i; `old` is the history before that, and `new` the
-- one with it
abbrev pub after_own : Form → List Work → List Entry → List Entry → List Place → ℕ → Turn → Reply → Option Scene
after_own form works old new places i turn r =
    option_and_then (λ (x : Shown × Place). option_and_then (λ (y : Shown × Place). option_map (come_to form i places turn y.0) (answered form i x.0 x.1 r)) (seat works new places i)) (seat works old places i)

-- the transaction at place i goes on if it may; then the others that wait are asked
abbrev pub sent : Form → ℕ → List Place → Shown × Place → Scene
sent form i places x = record { places = places; turn = if may_go form x.0 x.1.moves x.1.stage then Goes i else asks (Some i) None places }

abbrev pub sends : Form → List Work → List Entry → List Place → ℕ → Option Scene
sends form works h places zero = None
sends form works h places (suc i) = option_map (sent form i places) (seat works h places i)

-- the scene after the reply to the next event; None if that cannot have this reply
abbrev pub after_by : Form → List Work → List Entry → List Entry → List Place → Turn → Reply → Option Scene
after_by form works old new places (Goes i) r = after_own form works old new places i (Goes i) r
after_by form works old new places (Asks i but got_on) r = after_own form works old new places i (noted (Asks i but got_on) r) r
after_by form works old new places Looks (Victim v cycle) = sends form works new places v
after_by form works old new places Looks r = Some (record { places = places; turn = Rests })
after_by form works old new places Rests r = None

abbrev pub after : Form → List Work → List Entry → List Entry → Scene → Reply → Option Scene
after form works old new s r = after_by form works old new s.places s.turn r

-- ---- plays

-- one more move of t has come; one that has ended does nothing more
abbrev pub counted : Place → Place
counted p = record p { moves = p.moves + 1 }

abbrev pub set_off : Form → ℕ → List Place → Shown × Place → Scene
set_off form i places x =
    if is_over x.1.stage then record { places = slice_set places i (counted x.1); turn = Rests } else sent form i (slice_set places i (counted x.1)) (x.0, counted x.1)

abbrev pub comes : Form → List Work → List Entry → List Place → ℕ → Option Scene
comes form works h places zero = None
comes form works h places (suc i) = option_map (set_off form i places) (seat works h places i)

-- After a history the next events, each with its reply, lead from a scene to another.
abbrev pub Reaches : Form → List Work → ℕ → List Entry → Scene → List Entry → Scene → Type 0
Reaches form works t h s [] z = s ≡ z
Reaches form works t h s (x ∷ xs) z =
    (next form works t h s ≡ Some (x.worker, x.event))
    × (m : Scene) × (after form works h (h ++ x ∷ []) s x.reply ≡ Some m) × Reaches form works t (h ++ x ∷ []) m xs z

-- after a history a move of t sets off these events, until none comes next
abbrev pub SetsOff : Form → List Work → ℕ → List Entry → List Place → List Entry → List Place → Type 0
SetsOff form works t h places more later =
    (s z : Scene) × (comes form works h places t ≡ Some s) × Reaches form works t h s more z × (next form works t (h ++ more) z ≡ None) × (z.places ≡ later)

-- a move of t, and what it set off, led from one history to another
pub record HasMoved (form : Form) (works : List Work) (t : ℕ) (places : List Place) (old : List Entry) (later : List Place) (new : List Entry) : Type 0 where
  pub more : List Entry
  pub set_off : SetsOff form works t old places more later
  pub grown : new ≡ old ++ more

-- a transaction's place before its first event and before any move
abbrev pub first_place : Place
first_place = record { stage = Start; moves = 0; waits = false }

-- the history is the play of these moves, the last one first, and leads to these places
abbrev pub Plays : Form → List Work → List ℕ → List Place → List Entry → Type 0
Plays form works [] places h = (places ≡ replicate (length works) first_place) × (h ≡ [])
Plays form works (t ∷ past) places h =
    (was : List Place) × (before more : List Entry) × Plays form works past was before × SetsOff form works t before was more places × (h ≡ before ++ more)

abbrev pub IsPlay : Form → List Work → List ℕ → List Entry → Type 0
IsPlay form works past h = (places : List Place) × Plays form works past places h
