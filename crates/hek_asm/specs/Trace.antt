-- Traces: a line for each event, with its number, the event as a step of the canonical text, and the reply.
use Rattle.std.specs.Prelude.{ℕ, ◌+◌, List, [], ◌∷◌, ◌++◌, codes, map, Option, Some, None, IfSome}
use Rattle.std.specs.Fmt.{decimal}
use Rattle.hek_rules.specs.declared.event.Event.{Event}
use Rattle.hek_rules.specs.declared.reply.Refusal.{Refusal}
use Rattle.hek_rules.specs.declared.reply.Reply.{Reply}
use Rattle.hek_rules.specs.declared.reply.Reply.TheVariants as reply
use Rattle.hek_rules.specs.Events.{txn_of}
use Rattle.hek_rules.specs.Forms.{form_words}
use Rattle.hek_rules.specs.Names.{cause_word, refusal_number, refusal_name}
use Rattle.hek_rules.specs.Plan.{Plan, IsDeclared}
use Rattle.hek_rules.specs.Lines.{spaced, joined_words, line_text}
use Rattle.hek_rules.specs.Replies.{form_of}
use Rattle.hek_asm.specs.Canonical.{step_words}

abbrev pub refusal_words : Refusal → List (List ℕ)
refusal_words r = decimal (refusal_number r) ∷ refusal_name r ∷ []

-- KEY=VALUE
abbrev pub pair_word : ℕ × ℕ → List ℕ
pair_word p = decimal p.0 ++ 61 ∷ decimal p.1

abbrev pub writer_words : Option ℕ → List (List ℕ)
writer_words None = []
writer_words (Some u) = codes "writer" ∷ decimal u ∷ []

-- the words of a reply after those of its form
abbrev pub reply_operands : Reply → List (List ℕ)
reply_operands (reply.Began time) = decimal time ∷ []
reply_operands (reply.Found value) = decimal value ∷ []
reply_operands (reply.Rows pairs) = map pair_word pairs
reply_operands (reply.Waiting count) = decimal count ∷ []
reply_operands (reply.WaitingCommits count) = decimal count ∷ []
reply_operands (reply.Precommitted time) = decimal time ∷ []
reply_operands (reply.ReleasedRead v writer) = decimal v ∷ writer_words writer
reply_operands (reply.ReleasedBucket b) = decimal b ∷ []
reply_operands (reply.ReleasedWaiter u) = decimal u ∷ []
reply_operands (reply.StampedBegin v) = decimal v ∷ []
reply_operands (reply.StampedEnd v) = decimal v ∷ []
reply_operands (reply.Left v) = decimal v ∷ []
reply_operands (reply.Victim t cycle) = decimal t ∷ codes "cycle" ∷ map decimal cycle
reply_operands (reply.Aborted cause) = cause_word cause ∷ []
reply_operands (reply.Refused why) = refusal_words why
reply_operands other = []

abbrev pub reply_words : Reply → List (List ℕ)
reply_words r = form_words (form_of r) ++ reply_operands r

-- an event's transaction, if it has one, is declared
abbrev pub NamesDeclared : ℕ → Event → Type 0
NamesDeclared txns e = IfSome (txn_of e) (λ t. IsDeclared txns t)

-- NUMBER STEP -> REPLY
abbrev pub trace_line : Plan → ℕ → Event → Reply → List ℕ
trace_line p n e r = line_text (decimal n ∷ (step_words p e ++ codes "->" ∷ reply_words r))

-- a trace line in two parts: up to the reply, and from it on
abbrev pub line_front : Plan → ℕ → Event → List ℕ
line_front p n e = decimal n ++ (spaced (step_words p e) ++ codes " -> ")

abbrev pub line_rest : Reply → List ℕ
line_rest r = joined_words (reply_words r) ++ 10 ∷ []

-- the lines of events with their replies; the first line has number n
abbrev pub trace_from : Plan → ℕ → List Event → List Reply → List ℕ
trace_from p n [] rs = []
trace_from p n (e ∷ es) [] = []
trace_from p n (e ∷ es) (r ∷ rs) = trace_line p n e r ++ trace_from p (n + 1) es rs

abbrev pub trace : Plan → List Event → List Reply → List ℕ
trace p es rs = trace_from p 1 es rs
