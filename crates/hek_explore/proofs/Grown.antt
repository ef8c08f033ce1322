-- Histories that grow: the parts that decide an outcome, the events and replies of the rule table, and the clock.
use Rattle.std.proofs.Common.{◌≡◌, ℕ, ◌+◌, ◌≤◌, Bool, true, false, List, [], ◌∷◌, ◌++◌, length, refl, ap, sym, subst, ◌∙◌, map, arith, inl, inr}
use Rattle.std.proofs.lemmas.Bool.{cases_Bool}
use Rattle.std.proofs.lemmas.List.{map-append}
use Rattle.std.proofs.lemmas.List.Elements.{All-head, All-tail}
use Rattle.std.specs.List.{All}
use Rattle.std.specs.Prelude.{◌==◌, ◌||◌}
use Rattle.hek_rules.specs.declared.event.Event.{Event}
use Rattle.hek_rules.specs.declared.reply.Reply.{Reply}
use Rattle.hek_rules.specs.declared.reply.Reply.TheVariants as reply
use Rattle.hek_rules.specs.World.{World}
use Rattle.hek_rules.specs.Run.{next, reply as reply_to, run, transcript}
use Rattle.hek_laws.specs.Runs.{IsPlaced, IsReachable}
use Rattle.hek_laws.proofs.Runs.Reachable.{reachable-sound, next-reachable}
use Rattle.hek_laws.proofs.Worlds.Fixed.{fixed-next}
use Rattle.hek_similar.specs.Alike.{bare_reply, bare_step}
use Rattle.hek_similar.proofs.Runs.{clock-next}
use Rattle.hek_worker.specs.declared.entry.Entry.{Entry}
use Rattle.hek_worker.specs.History.{history_events, replies_in}
use Rattle.hek_permute.specs.declared.outcome.Ending.{Ending}
use Rattle.hek_permute.specs.declared.outcome.Ending.TheVariants as ending
use Rattle.hek_permute.specs.Outcomes.{is_wait, ends_with, end_in, has_wait}
use Rattle.hek_permute.proofs.RunReplies.{events-append, replies-append, told, told-on}
use Rattle.hek_explore.specs.Twins.{steps_in, bare_entry}

-- ---- one history after another
-- an end, or the later one if there is none
abbrev or_later : Ending → Ending → Ending
or_later ending.Committed later = ending.Committed
or_later (ending.Aborted why) later = ending.Aborted why
or_later ending.Unended later = later

ends-or_later : (r : Reply) (a b : Ending) → ends_with r (or_later a b) ≡ or_later (ends_with r a) b
ends-or_later reply.Committed a b = refl
ends-or_later (reply.Aborted why) a b = refl
ends-or_later reply.Failed a b = refl
ends-or_later r a b = refl

end-append : (t : ℕ) (xs ys : List Entry) → end_in t (xs ++ ys) ≡ or_later (end_in t xs) (end_in t ys)
end-append t [] ys = refl
end-append t (x ∷ xs) ys = elim (cases_Bool (x.worker == t)) [
  | inl a ↦ rw a (ap (ends_with x.reply) (end-append t xs ys) ∙ ends-or_later x.reply (end_in t xs) (end_in t ys))
  | inr a ↦ rw a (end-append t xs ys)
]

pub ends-grow : (t : ℕ) (xs ys us vs : List Entry) → end_in t xs ≡ end_in t us → end_in t ys ≡ end_in t vs → end_in t (xs ++ ys) ≡ end_in t (us ++ vs)
ends-grow t xs ys us vs a b = end-append t xs ys ∙ ap (λ z. or_later z (end_in t ys)) a ∙ ap (or_later (end_in t us)) b ∙ sym (end-append t us vs)

or-assoc : (a b c : Bool) → (a || (b || c)) ≡ ((a || b) || c)
or-assoc true b c = refl
or-assoc false b c = refl

wait-append : (xs ys : List Entry) → has_wait (xs ++ ys) ≡ (has_wait xs || has_wait ys)
wait-append [] ys = refl
wait-append (x ∷ xs) ys = ap (λ b. is_wait x.reply || b) (wait-append xs ys) ∙ or-assoc (is_wait x.reply) (has_wait xs) (has_wait ys)

pub waits-grow : (xs ys us vs : List Entry) → has_wait xs ≡ has_wait us → has_wait ys ≡ has_wait vs → has_wait (xs ++ ys) ≡ has_wait (us ++ vs)
waits-grow xs ys us vs a b = wait-append xs ys ∙ ap (λ z. z || has_wait ys) a ∙ ap (λ z. has_wait us || z) b ∙ sym (wait-append us vs)

pub steps-append : (xs ys : List Entry) → steps_in (xs ++ ys) ≡ steps_in xs ++ steps_in ys
steps-append xs ys = map-append (λ (x : Entry). (x.event, x.reply)) xs ys

-- ---- all of a list's end
pub All-right : {X : Type 0} (P : X → Type 0) (xs ys : List X) → All P (xs ++ ys) → All P ys
All-right P [] ys h = h
All-right P (x ∷ xs) ys h = All-right P xs ys (All-tail P x (xs ++ ys) h)

-- ---- runs and their replies
pub run-on : (w : World) (es fs : List Event) → run w (es ++ fs) ≡ run (run w es) fs
run-on w [] fs = refl
run-on w (e ∷ es) fs = run-on (next w e) es fs

-- the events with these replies are the transcript
pub steps-told : (w : World) (xs : List Entry) → replies_in xs ≡ told w (history_events xs) → steps_in xs ≡ transcript w (history_events xs)
steps-told w [] e = refl
steps-told w (x ∷ xs) e =
    let here : x.reply ≡ reply_to w x.event = cc in
    let rest : replies_in xs ≡ told (next w x.event) (history_events xs) = cc in
    ap (λ (r : Reply). (x.event, r) ∷ steps_in xs) here ∙ ap (λ (l : List (Event × Reply)). (x.event, reply_to w x.event) ∷ l) (steps-told (next w x.event) xs rest)

-- the replies of a history's end, put after its beginning
pub told-both : (w : World) (h more : List Entry) → replies_in h ≡ told w (history_events h) → replies_in more ≡ told (run w (history_events h)) (history_events more)
    → replies_in (h ++ more) ≡ told w (history_events (h ++ more))
told-both w h more a b =
    replies-append h more ∙ ap (λ l. l ++ replies_in more) a ∙ ap (λ l. told w (history_events h) ++ l) b
    ∙ sym (ap (told w) (events-append h more) ∙ told-on w (history_events h) (history_events more))

-- ---- entries told anew
-- the same events of the same workers, with the replies that they have from a world on
abbrev pub retold : World → List Entry → List Entry
retold w [] = []
retold w (x ∷ xs) = record x { reply = reply_to w x.event } ∷ retold (next w x.event) xs

pub retold-events : (w : World) (xs : List Entry) → history_events (retold w xs) ≡ history_events xs
retold-events w [] = refl
retold-events w (x ∷ xs) = ap (λ l. x.event ∷ l) (retold-events (next w x.event) xs)

pub retold-length : (w : World) (xs : List Entry) → length (retold w xs) ≡ length xs
retold-length w [] = refl
retold-length w (x ∷ xs) = omega (arith, retold-length (next w x.event) xs)

retold-told : (w : World) (xs : List Entry) → replies_in (retold w xs) ≡ told w (history_events xs)
retold-told w [] = refl
retold-told w (x ∷ xs) = ap (λ l. reply_to w x.event ∷ l) (retold-told (next w x.event) xs)

pub retold-replies : (w : World) (xs : List Entry) → replies_in (retold w xs) ≡ told w (history_events (retold w xs))
retold-replies w xs = retold-told w xs ∙ ap (told w) (sym (retold-events w xs))

bare-cons : (x : Entry) (r : Reply) (xs ys : List Entry) → bare_reply x.reply ≡ bare_reply r → map bare_entry xs ≡ map bare_entry ys
    → map bare_entry (x ∷ xs) ≡ map bare_entry (record x { reply = r } ∷ ys)
bare-cons x r xs ys a b =
    ap (λ (q : Reply). record x { reply = q } ∷ map bare_entry xs) a ∙ ap (λ (l : List Entry). record x { reply = bare_reply r } ∷ l) b

-- entries told anew are equal to those before but for times and places, if the runs answer alike
pub retold-same : (v w : World) (xs : List Entry) → replies_in xs ≡ told v (history_events xs)
    → map bare_step (transcript v (history_events xs)) ≡ map bare_step (transcript w (history_events xs)) → map bare_entry xs ≡ map bare_entry (retold w xs)
retold-same v w [] a b = refl
retold-same v w (x ∷ xs) a b =
    let here : x.reply ≡ reply_to v x.event = cc in
    let rest : replies_in xs ≡ told (next v x.event) (history_events xs) = cc in
    let step : bare_step (x.event, reply_to v x.event) ≡ bare_step (x.event, reply_to w x.event) = cc in
    let steps : map bare_step (transcript (next v x.event) (history_events xs)) ≡ map bare_step (transcript (next w x.event) (history_events xs)) = cc in
    bare-cons x (reply_to w x.event) xs (retold (next w x.event) xs) (ap bare_reply here ∙ ap (λ (p : Event × Reply). p.1) step)
    (retold-same (next v x.event) (next w x.event) xs rest steps)

-- ---- the clock
pub clock-run : (w : World) (es : List Event) → IsReachable w → All (IsPlaced w.buckets) es → (run w es).clock ≤ w.clock + length es
clock-run w [] r placed = omega arith
clock-run w (e ∷ es) r placed =
    let first : IsPlaced w.buckets e = All-head (IsPlaced w.buckets) e es placed in
    let rest : All (IsPlaced (next w e).buckets) es = subst (λ n. All (IsPlaced n) es) (sym (fixed-next w e).buckets) (All-tail (IsPlaced w.buckets) e es placed) in
    let one : (next w e).clock ≤ w.clock + 1 = clock-next w e (reachable-sound w r).buckets first in
    let more : (run (next w e) es).clock ≤ (next w e).clock + length es = clock-run (next w e) es (next-reachable w e r first) rest in
    omega arith
