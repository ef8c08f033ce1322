-- What a text is read as: the history whose trace it is, or the first line that no trace has there.
use Rattle.std.specs.Prelude.{◌≡◌, ℕ, ◌+◌, ◌<◌, ◌^◌, List, ◌++◌, length, map, IfSome}
use Rattle.std.specs.List.{AllByRecursion}
use Rattle.hek_rules.specs.declared.event.Event.{Event}
use Rattle.hek_rules.specs.declared.reply.Reply.{Reply}
use Rattle.hek_rules.specs.declared.reply.Reply.TheVariants as reply
use Rattle.hek_rules.specs.Events.{first_of, second_of}
use Rattle.hek_rules.specs.Plan.{Plan, IsPlan, levels_of}
use Rattle.hek_rules.specs.Recorded.{Recorded}
use Rattle.hek_asm.specs.declared.fault.TraceFault.{TraceFault}
use Rattle.hek_asm.specs.declared.fault.TraceFault.TheVariants as fault
use Rattle.hek_asm.specs.Trace.{NamesDeclared, line_rest, trace_line, trace}

abbrev pub is_small : ℕ → Type 0
is_small n = n < 2 ^ 64

abbrev pub AreSmall : List (ℕ × ℕ) → Type 0
AreSmall ps = AllByRecursion (λ (p : ℕ × ℕ). is_small p.0 × is_small p.1) ps

-- the numbers of a reply are below 2^64
abbrev pub IsSmallReply : Reply → Type 0
IsSmallReply (reply.Began time) = is_small time
IsSmallReply (reply.Found value) = is_small value
IsSmallReply (reply.Rows pairs) = AreSmall pairs
IsSmallReply (reply.Waiting count) = is_small count
IsSmallReply (reply.WaitingCommits count) = is_small count
IsSmallReply (reply.Precommitted time) = is_small time
IsSmallReply (reply.ReleasedRead v writer) = is_small v × IfSome writer is_small
IsSmallReply (reply.ReleasedBucket b) = is_small b
IsSmallReply (reply.ReleasedWaiter u) = is_small u
IsSmallReply (reply.StampedBegin v) = is_small v
IsSmallReply (reply.StampedEnd v) = is_small v
IsSmallReply (reply.Left v) = is_small v
IsSmallReply (reply.Victim t cycle) = is_small t × AllByRecursion is_small cycle
IsSmallReply other = Unit {0}

-- an entry that a line can be of: an event of a declared transaction, or detect, and a reply, with numbers below 2^64
pub record IsTraceEntry (txns : ℕ) (x : Event × Reply) : Type 0 where
  pub declared : NamesDeclared txns x.0
  pub first : is_small (first_of x.0)
  pub second : is_small (second_of x.0)
  pub reply : IsSmallReply x.1

abbrev pub AreEntries : Plan → List (Event × Reply) → Type 0
AreEntries p history = AllByRecursion (IsTraceEntry (length p.txns)) history

abbrev pub history_trace : Plan → List (Event × Reply) → List ℕ
history_trace p history = trace p (map (λ (x : Event × Reply). x.0) history) (map (λ (x : Event × Reply). x.1) history)

-- a transcript over the schedule whose trace is the text
pub record IsTraceOf (p : Plan) (told : Recorded) (text : List ℕ) : Type 0 where
  pub schedule : told ≡ record { buckets = p.buckets; rows = p.rows; levels = levels_of p; history = told.history }
  pub entries : AreEntries p told.history
  pub trace : text ≡ history_trace p told.history

-- the text begins with no line of this number
abbrev pub HasNoLine : Plan → ℕ → List ℕ → Type 0
HasNoLine p n text = (x : Event × Reply) (after : List ℕ) → IsTraceEntry (length p.txns) x → text ≡ trace_line p n x.0 x.1 ++ after → ⊥

-- the text begins with the trace of some entries, and no line of a trace follows them
pub record StopsAt (p : Plan) (n : ℕ) (text : List ℕ) : Type 0 where
  pub before : List (Event × Reply)
  pub rest : List ℕ
  pub entries : AreEntries p before
  pub is : text ≡ history_trace p before ++ rest
  pub some : 0 < length rest
  pub number : n ≡ length before + 1
  pub stops : HasNoLine p n rest

abbrev pub TraceFails : Plan → List ℕ → TraceFault → Type 0
TraceFails p text fault.NoMemory = Unit {0}
TraceFails p text (fault.Line n) = StopsAt p n text

-- the front of the text is the line of an entry
pub record IsFront (p : Plan) (n : ℕ) (x : Event × Reply) (text after : List ℕ) : Type 0 where
  pub entry : IsTraceEntry (length p.txns) x
  pub is : text ≡ trace_line p n x.0 x.1 ++ after

-- the front of the text is a reply, to the line's end
pub record IsLineRest (r : Reply) (text after : List ℕ) : Type 0 where
  pub small : IsSmallReply r
  pub is : text ≡ line_rest r ++ after

-- a text is the trace of at most one transcript, which reading it gives; a trace has no line at fault; a text has at
-- most one first line at fault
pub record TracesAreExact : Type 0 where
  pub one : (p : Plan) (told found : Recorded) (text : List ℕ) → IsPlan p → length text < 2 ^ 64 → IsTraceOf p told text → IsTraceOf p found text → found ≡ told
  pub no_fault : (p : Plan) (told : Recorded) (text : List ℕ) (n : ℕ) → IsPlan p → length text < 2 ^ 64 → IsTraceOf p told text → StopsAt p n text → ⊥
  pub one_fault : (p : Plan) (text : List ℕ) (m n : ℕ) → IsPlan p → length text < 2 ^ 64 → StopsAt p m text → StopsAt p n text → m ≡ n
