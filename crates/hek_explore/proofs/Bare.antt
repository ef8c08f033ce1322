-- What of a history does not depend on the times and places in its replies.
use Rattle.std.proofs.Common.{◌≡◌, ℕ, ◌+◌, true, List, [], ◌∷◌, ◌++◌, Option, Some, None, refl, ap, sym, subst, ◌∙◌, map}
use Rattle.std.proofs.lemmas.List.Elements.{All-cons, All-head, All-tail}
use Rattle.std.specs.Prelude.{◌==◌, ◌||◌, nat_lt, not, slice_get, if◌then◌else◌, option_and_then, option_map}
use Rattle.hek_rules.specs.declared.event.Event.{Event}
use Rattle.hek_rules.specs.declared.event.Event.TheVariants as event
use Rattle.hek_rules.specs.declared.reply.Reply.{Reply}
use Rattle.hek_rules.specs.declared.reply.Reply.TheVariants.{Began, Found, Rows, Done, Ready, Precommitted, ReleasedRead, Committed, Failed, Left, Over, NoCycle, Aborted}
use Rattle.hek_similar.specs.Alike.{bare_reply}
use Rattle.hek_worker.specs.declared.entry.Entry.{Entry}
use Rattle.hek_worker.specs.declared.stage.Stage.{Stage}
use Rattle.hek_worker.specs.declared.stage.Stage.TheVariants as stage
use Rattle.hek_worker.specs.Grammar.{event_at, answers, worked, position_after}
use Rattle.hek_worker.specs.History.{IsEntry, IsHistory}
use Rattle.hek_permute.specs.declared.moves.Form.{Form}
use Rattle.hek_permute.specs.declared.outcome.Ending.{Ending}
use Rattle.hek_permute.specs.Moves.{Work}
use Rattle.hek_permute.specs.Outcomes.{is_wait, ends_with, end_in, has_wait}
use Rattle.hek_permute.specs.declared.play.Place.{Place}
use Rattle.hek_permute.specs.declared.play.Turn.{Turn}
use Rattle.hek_permute.specs.declared.play.Turn.TheVariants.{Goes, Asks, Looks, Rests}
use Rattle.hek_permute.specs.Plays.{Scene, Shown, Reaches, seat, due, went, answered, noted, come_to, after_own, after_by, after_step, stage_after, stage_of, step_event}
use Rattle.hek_explore.specs.Twins.{bare_entry}
use Rattle.hek_explore.proofs.Known.{KnowAlike, know-more, next-same, after-same}

-- ---- one reply
wait-bare : (r : Reply) → is_wait (bare_reply r) ≡ is_wait r
wait-bare (Began time) = refl
wait-bare r = refl

ends-bare : (r : Reply) (later : Ending) → ends_with (bare_reply r) later ≡ ends_with r later
ends-bare (Began time) later = refl
ends-bare r later = refl

answers-bare : (e : Event) (r : Reply) → answers e (bare_reply r) ≡ answers e r
answers-bare (event.Read t key) (Found value) = refl
answers-bare (event.Scan t bucket) (Rows pairs) = refl
answers-bare (event.Insert t key value) Done = refl
answers-bare (event.Update t key value) Done = refl
answers-bare (event.Delete t key) Done = refl
answers-bare (event.Finish t) Ready = refl
answers-bare e r = refl

position-bare : (t : ℕ) (work : List Event) (s : Stage) (n : ℕ) (r : Reply) → position_after t work s n (bare_reply r) ≡ position_after t work s n r
position-bare t work stage.Start n (Began time) = refl
position-bare t work (stage.Working i) n (Aborted cause) = refl
position-bare t work (stage.Working i) n r = ap (λ c. if c then worked work i n else None) (answers-bare (event_at t work (stage.Working i)) r)
position-bare t work stage.Preparing n (Precommitted time) = refl
position-bare t work stage.Looking n NoCycle = refl
position-bare t work stage.GivingUp n Failed = refl
position-bare t work (stage.Releasing cut) n (ReleasedRead v writer) = refl
position-bare t work stage.Committing n Committed = refl
position-bare t work (stage.Stamping cut) n (Left v) = refl
position-bare t work stage.Ending n Over = refl
position-bare t work s n r = refl

-- the stage after a reply
step-bare : (e : Event) (i count : ℕ) (r : Reply) → after_step e i count (bare_reply r) ≡ after_step e i count r
step-bare e i count (Aborted cause) = refl
step-bare e i count r = ap (λ c. if c then (if nat_lt i count then Some (stage.Working (i + 1)) else Some stage.Preparing) else None) (answers-bare e r)

stage-bare : (t : ℕ) (s : Shown) (g : Stage) (r : Reply) → stage_after t s g (bare_reply r) ≡ stage_after t s g r
stage-bare t s (stage.Working i) r = step-bare (step_event t (slice_get s.acts i)) i s.count r
stage-bare t s stage.Start r = ap (option_map stage_of) (position-bare t [] stage.Start 0 r)
stage-bare t s stage.Preparing r = ap (option_map stage_of) (position-bare t [] stage.Preparing 0 r)
stage-bare t s stage.Looking r = ap (option_map stage_of) (position-bare t [] stage.Looking 0 r)
stage-bare t s stage.GivingUp r = ap (option_map stage_of) (position-bare t [] stage.GivingUp 0 r)
stage-bare t s (stage.Releasing cut) r = ap (option_map stage_of) (position-bare t [] (stage.Releasing cut) 0 r)
stage-bare t s stage.Committing r = ap (option_map stage_of) (position-bare t [] stage.Committing 0 r)
stage-bare t s (stage.Stamping cut) r = ap (option_map stage_of) (position-bare t [] (stage.Stamping cut) 0 r)
stage-bare t s stage.Ending r = ap (option_map stage_of) (position-bare t [] stage.Ending 0 r)
stage-bare t s stage.Ended r = refl

-- where a transaction is after a reply
answered-bare : (form : Form) (i : ℕ) (s : Shown) (p : Place) (r : Reply) → answered form i s p (bare_reply r) ≡ answered form i s p r
answered-bare form i s p r =
    ap (λ b. if b then Some (record p { waits = true }) else option_map (went p) (stage_after (i + 1) s (due form s p) (bare_reply r))) (wait-bare r)
    ∙ ap (λ o. if is_wait r then Some (record p { waits = true }) else option_map (went p) o) (stage-bare (i + 1) s (due form s p) r)

here-by : (form : Form) (i : ℕ) (places : List Place) (turn : Turn) (x : Shown × Place) (q : Option (Shown × Place)) (r : Reply)
    → option_and_then (λ (y : Shown × Place). option_map (come_to form i places turn y.0) (answered form i x.0 x.1 (bare_reply r))) q
    ≡ option_and_then (λ (y : Shown × Place). option_map (come_to form i places turn y.0) (answered form i x.0 x.1 r)) q
here-by form i places turn x None r = refl
here-by form i places turn x (Some y) r = ap (option_map (come_to form i places turn y.0)) (answered-bare form i x.0 x.1 r)

own-by : (form : Form) (i : ℕ) (places : List Place) (turn : Turn) (o q : Option (Shown × Place)) (r : Reply)
    → option_and_then (λ (x : Shown × Place). option_and_then (λ (y : Shown × Place). option_map (come_to form i places turn y.0) (answered form i x.0 x.1 (bare_reply r))) q) o
    ≡ option_and_then (λ (x : Shown × Place). option_and_then (λ (y : Shown × Place). option_map (come_to form i places turn y.0) (answered form i x.0 x.1 r)) q) o
own-by form i places turn None q r = refl
own-by form i places turn (Some x) q r = here-by form i places turn x q r

own-bare : (form : Form) (works : List Work) (old new : List Entry) (places : List Place) (i : ℕ) (turn : Turn) (r : Reply)
    → after_own form works old new places i turn (bare_reply r) ≡ after_own form works old new places i turn r
own-bare form works old new places i turn r = own-by form i places turn (seat works old places i) (seat works new places i) r

looked-bare : (form : Form) (works : List Work) (old new : List Entry) (places : List Place) (r : Reply) → after_by form works old new places Looks (bare_reply r) ≡ after_by form works old new places Looks r
looked-bare form works old new places (Began time) = refl
looked-bare form works old new places r = refl

by-bare : (form : Form) (works : List Work) (old new : List Entry) (places : List Place) (turn : Turn) (r : Reply) → after_by form works old new places turn (bare_reply r) ≡ after_by form works old new places turn r
by-bare form works old new places (Goes i) r = own-bare form works old new places i (Goes i) r
by-bare form works old new places (Asks i but got_on) r =
    own-bare form works old new places i (noted (Asks i but got_on) (bare_reply r)) r
    ∙ ap (λ b. after_own form works old new places i (Asks i but (got_on || not b)) r) (wait-bare r)
by-bare form works old new places Looks r = looked-bare form works old new places r
by-bare form works old new places Rests r = refl

-- ---- histories without times and places
-- entries that are equal but for times and places lead the same way, if the transactions know the same before
pub reach-same : (form : Form) (works : List Work) (t : ℕ) (h k : List Entry) (s z : Scene) (xs ys : List Entry) → map bare_entry xs ≡ map bare_entry ys → KnowAlike h k
    → Reaches form works t h s xs z → Reaches form works t k s ys z
reach-same form works t h k s z [] [] e know so = so
reach-same form works t h k s z [] (y ∷ ys) e know so = absurd (cc)
reach-same form works t h k s z (x ∷ xs) [] e know so = absurd (cc)
reach-same form works t h k s z (x ∷ xs) (y ∷ ys) e know so =
    let head : bare_entry x ≡ bare_entry y = cc in
    let tail : map bare_entry xs ≡ map bare_entry ys = cc in
    let made : ◌≡◌ {A = ℕ × Event} (x.worker, x.event) (y.worker, y.event) = ap (λ (q : Entry). (q.worker, q.event)) head in
    let bare : bare_reply x.reply ≡ bare_reply y.reply = ap (λ (q : Entry). q.reply) head in
    let now_alike : KnowAlike (h ++ x ∷ []) (k ++ y ∷ []) = know-more h k x y know head in (
      sym (next-same form works t h k s.places s.turn know) ∙ so.0 ∙ ap (λ (q : ℕ × Event). Some q) made,
      so.1,
      sym (by-bare form works k (k ++ y ∷ []) s.places s.turn y.reply) ∙ sym (ap (after_by form works k (k ++ y ∷ []) s.places s.turn) bare)
          ∙ by-bare form works k (k ++ y ∷ []) s.places s.turn x.reply
          ∙ sym (after-same form works h k (h ++ x ∷ []) (k ++ y ∷ []) s.places s.turn x.reply know now_alike) ∙ so.2,
      reach-same form works t (h ++ x ∷ []) (k ++ y ∷ []) so.1 z xs ys tail now_alike so.3,
    )

end-bare : (t : ℕ) (xs : List Entry) → end_in t (map bare_entry xs) ≡ end_in t xs
end-bare t [] = refl
end-bare t (x ∷ xs) =
    ap (λ (z : Ending). if x.worker == t then ends_with (bare_reply x.reply) z else z) (end-bare t xs)
    ∙ ap (λ (z : Ending). if x.worker == t then z else end_in t xs) (ends-bare x.reply (end_in t xs))

pub ends-same : (t : ℕ) (xs ys : List Entry) → map bare_entry xs ≡ map bare_entry ys → end_in t xs ≡ end_in t ys
ends-same t xs ys e = sym (end-bare t xs) ∙ ap (end_in t) e ∙ end-bare t ys

waits-bare : (xs : List Entry) → has_wait (map bare_entry xs) ≡ has_wait xs
waits-bare [] = refl
waits-bare (x ∷ xs) = ap (λ b. b || has_wait (map bare_entry xs)) (wait-bare x.reply) ∙ ap (λ b. is_wait x.reply || b) (waits-bare xs)

pub waits-same : (xs ys : List Entry) → map bare_entry xs ≡ map bare_entry ys → has_wait xs ≡ has_wait ys
waits-same xs ys e = sym (waits-bare xs) ∙ ap has_wait e ∙ waits-bare ys

entry-same : (n : ℕ) (x y : Entry) → bare_entry x ≡ bare_entry y → IsEntry n x → IsEntry n y
entry-same n x y e h =
    let who : x.worker ≡ y.worker = ap (λ (z : Entry). z.worker) e in
    let what : x.event ≡ y.event = ap (λ (z : Entry). z.event) e in
    subst (λ (v : Event). IsEntry n (record y { event = v })) what (subst (λ (t : ℕ). IsEntry n (record x { worker = t })) who h)

pub formed-same : (n : ℕ) (xs ys : List Entry) → map bare_entry xs ≡ map bare_entry ys → IsHistory n xs → IsHistory n ys
formed-same n [] [] e h = h
formed-same n [] (y ∷ ys) e h = absurd (cc)
formed-same n (x ∷ xs) [] e h = absurd (cc)
formed-same n (x ∷ xs) (y ∷ ys) e h =
    let head : bare_entry x ≡ bare_entry y = cc in
    let tail : map bare_entry xs ≡ map bare_entry ys = cc in
    All-cons (IsEntry n) y ys (entry-same n x y head (All-head (IsEntry n) x xs h)) (formed-same n xs ys tail (All-tail (IsEntry n) x xs h))
