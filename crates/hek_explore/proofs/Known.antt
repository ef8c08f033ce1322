-- What transactions know after histories without times and places.
use Rattle.std.proofs.Common.{◌≡◌, ℕ, ◌+◌, Bool, true, false, List, [], ◌∷◌, ◌++◌, Option, Some, None, length, zero, suc, refl, ap, sym, subst, ◌∙◌, filter, map}
use Rattle.std.proofs.lemmas.List.{map-append}
use Rattle.std.proofs.lemmas.List.Elements.{filter-append}
use Rattle.std.specs.Prelude.{◌&&◌, cond, option_and_then, option_map, slice_get}
use Rattle.hek_rules.specs.declared.event.Event.{Event}
use Rattle.hek_rules.specs.declared.event.Event.TheVariants as event
use Rattle.hek_rules.specs.declared.reply.Reply.{Reply}
use Rattle.hek_rules.specs.declared.reply.Reply.TheVariants as reply
use Rattle.hek_rules.specs.Serial.{is_of}
use Rattle.hek_similar.specs.Alike.{bare_reply}
use Rattle.hek_similar.specs.Similar.{timeless_reply}
use Rattle.hek_similar.specs.Verdicts.{ToldAlike, counts, judged_part}
use Rattle.hek_program.specs.declared.term.Factor.{Factor}
use Rattle.hek_program.specs.declared.term.Factor.TheVariants.{Number, Key, Name}
use Rattle.hek_program.specs.Acts.{act_of}
use Rattle.hek_program.specs.Told.{known_after, known_on, seen_by}
use Rattle.hek_worker.specs.declared.entry.Entry.{Entry}
use Rattle.hek_permute.specs.declared.moves.Form.{Form}
use Rattle.hek_permute.specs.declared.moves.Move.{Move}
use Rattle.hek_permute.specs.declared.play.Place.{Place}
use Rattle.hek_permute.specs.declared.play.Turn.{Turn}
use Rattle.hek_permute.specs.declared.play.Turn.TheVariants.{Goes, Asks, Looks, Rests}
use Rattle.hek_permute.specs.Moves.{Work}
use Rattle.hek_permute.specs.Plays.{Scene, Shown, after, after_by, after_own, answered, both, come_to, comes, next, next_by, next_of, noted, own_of, seat, sends, sent, set_off, shown, shown_to}
use Rattle.hek_explore.specs.Twins.{bare_entry, steps_in}

-- each transaction knows the same of each key
abbrev pub KnowAlike : List Entry → List Entry → Type 0
KnowAlike h k = (buckets key t : ℕ) → known_on buckets key None (own_of t h) ≡ known_on buckets key None (own_of t k)

known_on-append : (b key : ℕ) (o : Option ℕ) (xs ys : List (Event × Reply)) → known_on b key o (xs ++ ys) ≡ known_on b key (known_on b key o xs) ys
known_on-append b key o [] ys = refl
known_on-append b key o (x ∷ xs) ys = known_on-append b key (known_after b key o x.0 x.1) xs ys

own_of-append : (t : ℕ) (h k : List Entry) → own_of t (h ++ k) ≡ own_of t h ++ own_of t k
own_of-append t h k =
    ap (filter (λ (p : Event × Reply). is_of t p.0)) (map-append (λ (x : Entry). (x.event, x.reply)) h k)
    ∙ filter-append (λ (p : Event × Reply). is_of t p.0) (map (λ (x : Entry). (x.event, x.reply)) h) (map (λ (x : Entry). (x.event, x.reply)) k)

-- ---- one more reply
known-bare : (b key : ℕ) (o : Option ℕ) (e : Event) (r : Reply) → known_after b key o e (bare_reply r) ≡ known_after b key o e r
known-bare b key o (event.Read t k) (reply.Found value) = refl
known-bare b key o (event.Scan t bucket) (reply.Rows pairs) = refl
known-bare b key o (event.Insert t k value) reply.Done = refl
known-bare b key o (event.Update t k value) reply.Done = refl
known-bare b key o (event.Delete t k) reply.Done = refl
known-bare b key o e r = refl

one-bare : (b key : ℕ) (o : Option ℕ) (mine : Bool) (e : Event) (r : Reply) → known_on b key o (cond mine ((e, bare_reply r) ∷ []) []) ≡ known_on b key o (cond mine ((e, r) ∷ []) [])
one-bare b key o true e r = known-bare b key o e r
one-bare b key o false e r = refl

entry-bare : (b key t : ℕ) (o : Option ℕ) (x : Entry) → known_on b key o (own_of t (bare_entry x ∷ [])) ≡ known_on b key o (own_of t (x ∷ []))
entry-bare b key t o x = one-bare b key o (is_of t x.event) x.event x.reply

entry-same : (b key t : ℕ) (o : Option ℕ) (x y : Entry) → bare_entry x ≡ bare_entry y → known_on b key o (own_of t (x ∷ [])) ≡ known_on b key o (own_of t (y ∷ []))
entry-same b key t o x y e = sym (entry-bare b key t o x) ∙ ap (λ (z : Entry). known_on b key o (own_of t (z ∷ []))) e ∙ entry-bare b key t o y

known-on : (b key t : ℕ) (h : List Entry) (x : Entry) → known_on b key None (own_of t (h ++ x ∷ [])) ≡ known_on b key (known_on b key None (own_of t h)) (own_of t (x ∷ []))
known-on b key t h x = ap (known_on b key None) (own_of-append t h (x ∷ [])) ∙ known_on-append b key None (own_of t h) (own_of t (x ∷ []))

pub know-more : (h k : List Entry) (x y : Entry) → KnowAlike h k → bare_entry x ≡ bare_entry y → KnowAlike (h ++ x ∷ []) (k ++ y ∷ [])
know-more h k x y know e = λ b key t.
    known-on b key t h x
    ∙ entry-same b key t (known_on b key None (own_of t h)) x y e
    ∙ ap (λ (o : Option ℕ). known_on b key o (own_of t (y ∷ []))) (know b key t)
    ∙ sym (known-on b key t k y)

-- ---- histories that are told alike
known-timeless : (b key : ℕ) (o : Option ℕ) (e : Event) (r : Reply) → known_after b key o e (timeless_reply r) ≡ known_after b key o e r
known-timeless b key o (event.Read t k) (reply.Found value) = refl
known-timeless b key o (event.Scan t bucket) (reply.Rows pairs) = refl
known-timeless b key o (event.Insert t k value) reply.Done = refl
known-timeless b key o (event.Update t k value) reply.Done = refl
known-timeless b key o (event.Delete t k) reply.Done = refl
known-timeless b key o e r = refl

-- what does not count tells nothing
uncounted : (b key : ℕ) (o : Option ℕ) (e : Event) (r : Reply) → counts e (timeless_reply r) ≡ false → known_after b key o e r ≡ o
uncounted b key o (event.Read t k) (reply.Refused why) h = refl
uncounted b key o (event.Read t k) r h = absurd (cc)
uncounted b key o (event.Scan t bucket) (reply.Refused why) h = refl
uncounted b key o (event.Scan t bucket) r h = absurd (cc)
uncounted b key o (event.Insert t k value) (reply.Refused why) h = refl
uncounted b key o (event.Insert t k value) r h = absurd (cc)
uncounted b key o (event.Update t k value) (reply.Refused why) h = refl
uncounted b key o (event.Update t k value) r h = absurd (cc)
uncounted b key o (event.Delete t k) (reply.Refused why) h = refl
uncounted b key o (event.Delete t k) r h = absurd (cc)
uncounted b key o e r h = refl

step-known : (b key : ℕ) (o : Option ℕ) (mine counted : Bool) (e : Event) (r s : Reply) (xs ys : List (Event × Reply)) → known_after b key o e s ≡ known_after b key o e r
    → (counted ≡ false → known_after b key o e r ≡ o) → ((q : Option ℕ) → known_on b key q xs ≡ known_on b key q ys)
    → known_on b key o (cond mine ((e, r) ∷ xs) xs) ≡ known_on b key o (cond (mine && counted) ((e, s) ∷ ys) ys)
step-known b key o true true e r s xs ys same none rest = rest (known_after b key o e r) ∙ ap (λ (q : Option ℕ). known_on b key q ys) (sym same)
step-known b key o true false e r s xs ys same none rest = ap (λ (q : Option ℕ). known_on b key q xs) (none refl) ∙ rest o
step-known b key o false true e r s xs ys same none rest = rest o
step-known b key o false false e r s xs ys same none rest = rest o

judged-known : (b key t : ℕ) (o : Option ℕ) (xs : List (Event × Reply)) → known_on b key o (filter (λ (p : Event × Reply). is_of t p.0) xs) ≡ known_on b key o (judged_part t xs)
judged-known b key t o [] = refl
judged-known b key t o (x ∷ xs) =
    step-known b key o (is_of t x.0) (counts x.0 (timeless_reply x.1)) x.0 x.1 (timeless_reply x.1) (filter (λ (p : Event × Reply). is_of t p.0) xs) (judged_part t xs)
    (known-timeless b key o x.0 x.1) (uncounted b key o x.0 x.1) (λ q. judged-known b key t q xs)

pub know-told : (h k : List Entry) → ToldAlike (steps_in h) (steps_in k) → KnowAlike h k
know-told h k told = λ b key t.
    judged-known b key t None (steps_in h) ∙ ap (known_on b key None) (told.parts t) ∙ sym (judged-known b key t None (steps_in k))

-- ---- what transactions do that know the same
seen-at : (b : ℕ) (xs ys : List (Event × Reply)) → ((key : ℕ) → known_on b key None xs ≡ known_on b key None ys) → (f : Factor) → seen_by b xs f ≡ seen_by b ys f
seen-at b xs ys h (Number n) = refl
seen-at b xs ys h (Key key) = h key
seen-at b xs ys h (Name t) = refl

seen-same : (b : ℕ) (xs ys : List (Event × Reply)) → ((key : ℕ) → known_on b key None xs ≡ known_on b key None ys) → seen_by b xs ≡ seen_by b ys
seen-same b xs ys h = λ i. λ f. seen-at b xs ys h f i

shown-same : (w : Work) (t : ℕ) (h k : List Entry) → KnowAlike h k → shown_to w t h ≡ shown_to w t k
shown-same w t h k know =
    ap (λ (v : Factor → Option ℕ). record { acts = map (λ (m : Move). act_of v m.event m.rule) w.steps; count = length w.steps; fails = w.fails })
    (seen-same w.buckets (own_of t h) (own_of t k) (λ key. know w.buckets key t))

option-same : (o : Option Work) (t : ℕ) (h k : List Entry) → KnowAlike h k → option_map (λ w. shown_to w t h) o ≡ option_map (λ w. shown_to w t k) o
option-same None t h k know = refl
option-same (Some w) t h k know = ap (λ (s : Shown). Some s) (shown-same w t h k know)

pub seat-same : (works : List Work) (h k : List Entry) (places : List Place) (i : ℕ) → KnowAlike h k → seat works h places i ≡ seat works k places i
seat-same works h k places i know = ap (λ (o : Option Shown). both o (slice_get places i)) (option-same (slice_get works i) (i + 1) h k know)

pub next-same : (form : Form) (works : List Work) (t : ℕ) (h k : List Entry) (places : List Place) (turn : Turn) → KnowAlike h k → next_by form works t h places turn ≡ next_by form works t k places turn
next-same form works t h k places (Goes i) know = ap (option_map (next_of form i)) (seat-same works h k places i know)
next-same form works t h k places (Asks i but got_on) know = ap (option_map (next_of form i)) (seat-same works h k places i know)
next-same form works t h k places Looks know = refl
next-same form works t h k places Rests know = refl

sends-same : (form : Form) (works : List Work) (h k : List Entry) (places : List Place) (v : ℕ) → KnowAlike h k → sends form works h places v ≡ sends form works k places v
sends-same form works h k places zero know = refl
sends-same form works h k places (suc i) know = ap (option_map (sent form i places)) (seat-same works h k places i know)

pub comes-same : (form : Form) (works : List Work) (h k : List Entry) (places : List Place) (t : ℕ) → KnowAlike h k → comes form works h places t ≡ comes form works k places t
comes-same form works h k places zero know = refl
comes-same form works h k places (suc i) know = ap (option_map (set_off form i places)) (seat-same works h k places i know)

own-same : (form : Form) (works : List Work) (h k new now : List Entry) (places : List Place) (i : ℕ) (turn : Turn) (r : Reply) → KnowAlike h k → KnowAlike new now
    → after_own form works h new places i turn r ≡ after_own form works k now places i turn r
own-same form works h k new now places i turn r know then =
    ap (λ (o : Option (Shown × Place)). option_and_then (λ (x : Shown × Place). option_and_then (λ (y : Shown × Place). option_map (come_to form i places turn y.0) (answered form i x.0 x.1 r)) (seat works new places i)) o)
    (seat-same works h k places i know)
    ∙ ap (λ (q : Option (Shown × Place)). option_and_then (λ (x : Shown × Place). option_and_then (λ (y : Shown × Place). option_map (come_to form i places turn y.0) (answered form i x.0 x.1 r)) q) (seat works k places i))
    (seat-same works new now places i then)

looks-same : (form : Form) (works : List Work) (h k new now : List Entry) (places : List Place) (r : Reply) → KnowAlike new now
    → after_by form works h new places Looks r ≡ after_by form works k now places Looks r
looks-same form works h k new now places (reply.Victim v cycle) then = sends-same form works new now places v then
looks-same form works h k new now places r then = refl

pub after-same : (form : Form) (works : List Work) (h k new now : List Entry) (places : List Place) (turn : Turn) (r : Reply) → KnowAlike h k → KnowAlike new now
    → after_by form works h new places turn r ≡ after_by form works k now places turn r
after-same form works h k new now places (Goes i) r know then = own-same form works h k new now places i (Goes i) r know then
after-same form works h k new now places (Asks i but got_on) r know then = own-same form works h k new now places i (noted (Asks i but got_on) r) r know then
after-same form works h k new now places Looks r know then = looks-same form works h k new now places r then
after-same form works h k new now places Rests r know then = refl
