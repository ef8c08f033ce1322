-- The numbers of an entry that a line can be of are below 2^64.
use Rattle.std.proofs.Common.{◌≡◌, ℕ, ◌+◌, ◌^◌, Bool, true, false, List, [], ◌∷◌, length, map, drop, take, Option, Some, None, IfSome, refl, codes, subst, arith}
use Rattle.std.specs.Prelude.{nat_lt, nat_le, ◌&&◌, unwrap_or, if◌then◌else◌}
use Rattle.std.specs.List.{AllByRecursion, position_or_len}
use Rattle.std.specs.Str.{bytes_eq, all_ascii_digits}
use Rattle.std.specs.Str.Parse.{digits_value}
use Rattle.std.proofs.lemmas.Bool.{and_parts, ltb-true}
use Rattle.hek_rules.specs.declared.event.Event.{Event}
use Rattle.hek_rules.specs.declared.event.Event.TheVariants as event
use Rattle.hek_rules.specs.declared.kind.EventKind.{EventKind}
use Rattle.hek_rules.specs.declared.kind.EventKind.TheVariants as kind
use Rattle.hek_rules.specs.declared.reply.Reply.{Reply}
use Rattle.hek_rules.specs.declared.form.ReplyForm.{ReplyForm}
use Rattle.hek_rules.specs.declared.form.ReplyForm.TheVariants as form
use Rattle.hek_rules.specs.Events.{kind_named, event_of, first_of, second_of}
use Rattle.hek_rules.specs.Forms.{all_forms, form_words}
use Rattle.hek_rules.specs.Plan.{Plan, id_of}
use Rattle.hek_rules.specs.Text.{is_number}
use Rattle.hek_asm.specs.Likely.{◌>>=◌, number_else_zero, first_value, is_equals, pair_of, form_among, writer_at, plain_reply, reply_from, reply_of, likely_reply, step_named, likely_event, step_len, likely_entry}
use Rattle.hek_asm.specs.Reading.{is_small, AreSmall, IsSmallReply}

-- a choice of two that both have a property
pick : {X : Type 0} (P : X → Type 0) (b : Bool) (x y : X) → P x → P y → P (if b then x else y)
pick P true x y h k = h
pick P false x y h k = k

-- ---- numbers
number_or_zero : (w : List ℕ) (b : Bool) → is_number w ≡ b → is_small (unwrap_or (if b then Some (digits_value 10 w) else None) 0)
number_or_zero w true e = ltb-true (digits_value 10 w) (2 ^ 64) (and_parts ((nat_lt 0 (length w) && nat_le (length w) 20) && all_ascii_digits w) (nat_lt (digits_value 10 w) (2 ^ 64)) e).1
number_or_zero w false e = omega arith

value_small : (w : List ℕ) → is_small (number_else_zero w)
value_small w = number_or_zero w (is_number w) refl

first_small : (ws : List (List ℕ)) → is_small (first_value ws)
first_small [] = omega arith
first_small (w ∷ ws) = value_small w

values_small : (ws : List (List ℕ)) → AllByRecursion is_small (map number_else_zero ws)
values_small [] = tt
values_small (w ∷ ws) = (value_small w, values_small ws)

pairs_small : (ws : List (List ℕ)) → AreSmall (map pair_of ws)
pairs_small [] = tt
pairs_small (w ∷ ws) = ((value_small (take (position_or_len is_equals w) w), value_small (drop 1 (drop (position_or_len is_equals w) w))), pairs_small ws)

-- ---- replies
pub plain_small : (f : ReplyForm) (n : ℕ) → is_small n → IsSmallReply (plain_reply f n)
plain_small form.Began n h = h
plain_small form.Found n h = h
plain_small form.Waiting n h = h
plain_small form.WaitingCommits n h = h
plain_small form.Precommitted n h = h
plain_small form.ReleasedRead n h = (h, tt)
plain_small form.ReleasedBucket n h = h
plain_small form.ReleasedWaiter n h = h
plain_small form.StampedBegin n h = h
plain_small form.StampedEnd n h = h
plain_small form.Left n h = h
plain_small other n h = tt

writer_small : (ws : List (List ℕ)) → IfSome (writer_at ws) is_small
writer_small [] = tt
writer_small (w ∷ []) = tt
writer_small (w ∷ u ∷ ws) = value_small u

from_small : (f : ReplyForm) (ws : List (List ℕ)) → IsSmallReply (reply_from f ws)
from_small form.Rows ws = pairs_small ws
from_small form.ReleasedRead ws = (first_small ws, writer_small (drop 1 ws))
from_small form.Victim ws = (first_small ws, values_small (drop 2 ws))
from_small form.Aborted ws = tt
from_small form.Refused ws = tt
from_small other ws = plain_small other (first_value ws) (first_small ws)

reply_of_small : (o : Option ReplyForm) (ws : List (List ℕ)) → IsSmallReply (reply_of o ws)
reply_of_small None ws = tt
reply_of_small (Some f) ws = from_small f (drop (length (form_words f)) ws)

pub reply_small : (ws : List (List ℕ)) → IsSmallReply (likely_reply ws)
unfolding likely_reply
reply_small ws = reply_of_small (form_among all_forms ws) ws

-- ---- events
abbrev pub IsSmallEvent : Event → Type 0
IsSmallEvent e = is_small (first_of e) × is_small (second_of e)

pub zero_small : is_small 0
zero_small = omega arith

of_small : (k : EventKind) (t a b : ℕ) → is_small a → is_small b → IsSmallEvent (event_of k t a b)
of_small kind.Begin t a b h k = (zero_small, zero_small)
of_small kind.Read t a b h k = (h, zero_small)
of_small kind.Scan t a b h k = (h, zero_small)
of_small kind.Insert t a b h k = (h, k)
of_small kind.Update t a b h k = (h, k)
of_small kind.Delete t a b h k = (h, zero_small)
of_small kind.Finish t a b h k = (zero_small, zero_small)
of_small kind.Precommit t a b h k = (zero_small, zero_small)
of_small kind.Release t a b h k = (zero_small, zero_small)
of_small kind.Commit t a b h k = (zero_small, zero_small)
of_small kind.Fail t a b h k = (zero_small, zero_small)
of_small kind.Stamp t a b h k = (zero_small, zero_small)
of_small kind.End t a b h k = (zero_small, zero_small)
of_small kind.Detect t a b h k = (zero_small, zero_small)

onward_some : {A B : Type 0} (P : B → Type 0) (o : Option A) (f : A → Option B) → ((x : A) → IfSome (f x) P) → IfSome (o >>= f) P
onward_some P None f h = tt
onward_some P (Some x) f h = h x

onward_each : {A B : Type 0} (P : A → Type 0) (Q : B → Type 0) (o : Option A) (f : A → Option B) → IfSome o P → ((x : A) → P x → IfSome (f x) Q) → IfSome (o >>= f) Q
onward_each P Q None f h k = tt
onward_each P Q (Some x) f h k = k x h

step_small : (p : Plan) (name : List ℕ) (ws : List (List ℕ)) → IfSome (step_named p name ws) IsSmallEvent
unfolding step_named
step_small p name [] = tt
step_small p name (w ∷ ws) =
    onward_some IsSmallEvent (kind_named w) (λ k. id_of p name >>= (λ t. Some (event_of k t (first_value ws) (first_value (drop 1 ws)))))
    (λ k. onward_some IsSmallEvent (id_of p name) (λ t. Some (event_of k t (first_value ws) (first_value (drop 1 ws))))
    (λ t. of_small k t (first_value ws) (first_value (drop 1 ws)) (first_small ws) (first_small (drop 1 ws))))

event_small : (p : Plan) (ws : List (List ℕ)) → IfSome (likely_event p ws) IsSmallEvent
unfolding likely_event
event_small p [] = tt
event_small p (w ∷ ws) = pick (λ (o : Option Event). IfSome o IsSmallEvent) (bytes_eq w (codes "detect")) (Some event.Detect) (step_named p w ws) (zero_small, zero_small) (step_small p w ws)

abbrev pub IsSmall : Event × Reply → Type 0
IsSmall x = IsSmallEvent x.0 × IsSmallReply x.1

entry_small : (p : Plan) (ws : List (List ℕ)) → IfSome (likely_entry p ws) IsSmall
unfolding likely_entry
entry_small p [] = tt
entry_small p (w ∷ ws) =
    onward_each IsSmallEvent IsSmall (likely_event p ws) (λ e. Some (e, likely_reply (drop (step_len e + 1) ws))) (event_small p ws) (λ e h. (h, reply_small (drop (step_len e + 1) ws)))

pub likely_small : (p : Plan) (ws : List (List ℕ)) (x : Event × Reply) → likely_entry p ws ≡ Some x → IsSmall x
likely_small p ws x e = subst (λ (o : Option (Event × Reply)). IfSome o IsSmall) e (entry_small p ws)
