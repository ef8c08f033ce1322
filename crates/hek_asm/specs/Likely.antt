-- The one event and the one reply that the words of a trace line can be of. Writing them shows if the line is theirs.
use Rattle.std.specs.Prelude.{ℕ, ◌+◌, ◌==◌, Bool, true, false, ◌&&◌, List, [], ◌∷◌, codes, length, map, drop, take, Option, None, Some, unwrap_or, find, if◌then◌else◌}
use Rattle.std.specs.List.{position_or_len}
use Rattle.std.specs.Str.{bytes_eq}
use Rattle.hek_rules.specs.declared.event.Cause.{Cause}
use Rattle.hek_rules.specs.declared.event.Cause.TheVariants as cause
use Rattle.hek_rules.specs.declared.event.Event.{Event}
use Rattle.hek_rules.specs.declared.event.Event.TheVariants.{Detect}
use Rattle.hek_rules.specs.declared.form.ReplyForm.{ReplyForm}
use Rattle.hek_rules.specs.declared.form.ReplyForm.TheVariants as form
use Rattle.hek_rules.specs.declared.reply.Refusal.{Refusal}
use Rattle.hek_rules.specs.declared.reply.Refusal.TheVariants as refusal
use Rattle.hek_rules.specs.declared.reply.Reply.{Reply}
use Rattle.hek_rules.specs.declared.reply.Reply.TheVariants as reply
use Rattle.hek_rules.specs.Events.{kind_named, operand_count, event_of, kind_of, txn_of}
use Rattle.hek_rules.specs.Forms.{all_forms, first_word, second_word, form_words}
use Rattle.hek_rules.specs.Names.{cause_named, refusal_named}
use Rattle.hek_rules.specs.Plan.{Plan, id_of}
use Rattle.hek_rules.specs.Text.{number_of}

infixl 10 ◌>>=◌
abbrev pub ◌>>=◌ : {A B : Type 0} → Option A → (A → Option B) → Option B
None >>= f = None
(Some x) >>= f = f x

-- the number that a word is, or 0
abbrev pub number_else_zero : List ℕ → ℕ
number_else_zero word = unwrap_or (number_of word) 0

-- the number that the first word is, or 0
abbrev pub first_value : List (List ℕ) → ℕ
first_value [] = 0
first_value (w ∷ ws) = number_else_zero w

abbrev pub is_equals : ℕ → Bool
is_equals b = b == 61

-- the numbers before and after the first '='
abbrev pub pair_of : List ℕ → ℕ × ℕ
pair_of w = (number_else_zero (take (position_or_len is_equals w) w), number_else_zero (drop 1 (drop (position_or_len is_equals w) w)))

-- ---- replies, by their forms
abbrev pub has_second : Option (List ℕ) → List (List ℕ) → Bool
has_second None ws = true
has_second (Some second) [] = false
has_second (Some second) (w ∷ ws) = bytes_eq w second

-- whether words begin with those of a form
abbrev pub begins : ReplyForm → List (List ℕ) → Bool
begins f [] = false
begins f (w ∷ ws) = bytes_eq w (first_word f) && has_second (second_word f) ws

-- the first of some forms whose words these begin with
abbrev pub form_among : List ReplyForm → List (List ℕ) → Option ReplyForm
form_among forms ws = find (λ (f : ReplyForm). begins f ws) forms

-- whether a form is `waiting`: another form begins with the same word, and has one more
abbrev pub is_waiting : ReplyForm → Bool
is_waiting form.Waiting = true
is_waiting other = false

-- the transaction after the word `writer`, if there is one
abbrev pub writer_at : List (List ℕ) → Option ℕ
writer_at (w ∷ u ∷ ws) = Some (number_else_zero u)
writer_at ws = None

-- the cause that the first word is, or the last one
abbrev pub cause_at : List (List ℕ) → Cause
cause_at [] = cause.Asked
cause_at (w ∷ ws) = unwrap_or (cause_named w) cause.Asked

-- the refusal whose name the second word is, or the last one
abbrev pub refusal_at : List (List ℕ) → Refusal
refusal_at (n ∷ w ∷ ws) = unwrap_or (refusal_named w) refusal.ClockFull
refusal_at ws = refusal.ClockFull

-- the reply of a form with one number or none; of another form any
abbrev pub plain_reply : ReplyForm → ℕ → Reply
plain_reply form.Began n = reply.Began n
plain_reply form.Found n = reply.Found n
plain_reply form.Done n = reply.Done
plain_reply form.Exists n = reply.Exists
plain_reply form.Ready n = reply.Ready
plain_reply form.Waiting n = reply.Waiting n
plain_reply form.WaitingCommits n = reply.WaitingCommits n
plain_reply form.Precommitted n = reply.Precommitted n
plain_reply form.ReleasedRead n = reply.ReleasedRead n None
plain_reply form.ReleasedBucket n = reply.ReleasedBucket n
plain_reply form.ReleasedWaiter n = reply.ReleasedWaiter n
plain_reply form.Nothing n = reply.Nothing
plain_reply form.Committed n = reply.Committed
plain_reply form.Failed n = reply.Failed
plain_reply form.StampedBegin n = reply.StampedBegin n
plain_reply form.StampedEnd n = reply.StampedEnd n
plain_reply form.Left n = reply.Left n
plain_reply form.Over n = reply.Over
plain_reply form.NoCycle n = reply.NoCycle
plain_reply other n = reply.Absent

-- the reply of a form with these words after those of the form
abbrev pub reply_from : ReplyForm → List (List ℕ) → Reply
reply_from form.Rows ws = reply.Rows (map pair_of ws)
reply_from form.ReleasedRead ws = reply.ReleasedRead (first_value ws) (writer_at (drop 1 ws))
reply_from form.Victim ws = reply.Victim (first_value ws) (map number_else_zero (drop 2 ws))
reply_from form.Aborted ws = reply.Aborted (cause_at ws)
reply_from form.Refused ws = reply.Refused (refusal_at ws)
reply_from other ws = plain_reply other (first_value ws)

abbrev pub reply_of : Option ReplyForm → List (List ℕ) → Reply
reply_of None ws = reply.Absent
reply_of (Some f) ws = reply_from f (drop (length (form_words f)) ws)

unfoldable pub likely_reply : List (List ℕ) → Reply
likely_reply ws = reply_of (form_among all_forms ws) ws

-- ---- events
unfoldable pub step_named : Plan → List ℕ → List (List ℕ) → Option Event
step_named p name [] = None
step_named p name (w ∷ ws) = do
  kind ← kind_named w
  txn ← id_of p name
  Some (event_of kind txn (first_value ws) (first_value (drop 1 ws)))

unfoldable pub likely_event : Plan → List (List ℕ) → Option Event
likely_event p [] = None
likely_event p (w ∷ ws) = if bytes_eq w (codes "detect") then Some Detect else step_named p w ws

-- how many words a step has
abbrev pub names_len : Option ℕ → ℕ
names_len None = 0
names_len (Some t) = 1

abbrev pub step_len : Event → ℕ
step_len e = names_len (txn_of e) + (1 + operand_count (kind_of e))

-- ---- lines: a number, a step, an arrow, a reply
unfoldable pub likely_entry : Plan → List (List ℕ) → Option (Event × Reply)
likely_entry p [] = None
likely_entry p (number ∷ ws) = do
  event ← likely_event p ws
  Some (event, likely_reply (drop (step_len event + 1) ws))
