-- How a move leads from one key to another.
use Rattle.std.proofs.Common.{◌≡◌, ℕ, suc, zero, ◌+◌, ◌≤◌, Bool, true, false, List, [], ◌∷◌, ◌++◌, map, Option, Some, None, length, refl, ap, sym, subst, ◌∙◌, arith}
use Rattle.std.proofs.lemmas.List.{reverse-reverse}
use Rattle.std.proofs.lemmas.List.Elements.{All-append, All-cons, All-head, All-nil, All-tail, All-filter}
use Rattle.std.specs.List.{All}
use Rattle.std.specs.Prelude.{option_map, slice_get, if◌then◌else◌}
use Rattle.std.proofs.lemmas.Option.{slice_get-map}
use Rattle.hek_rules.specs.declared.event.Event.{Event}
use Rattle.hek_rules.specs.declared.event.Event.TheVariants as event
use Rattle.hek_rules.specs.Plan.{Plan, IsPlan}
use Rattle.hek_laws.specs.Runs.{IsPlaced}
use Rattle.hek_similar.specs.Places.{ScansGroup}
use Rattle.hek_machine.specs.declared.engine.Engine.{Engine}
use Rattle.hek_machine.specs.Observed.{opening_of}
use Rattle.hek_machine.proofs.PlacedSteps.{steps_placed}
use Rattle.hek_worker.specs.declared.entry.Entry.{Entry}
use Rattle.hek_worker.specs.declared.stage.Stage.{Stage}
use Rattle.hek_worker.specs.declared.stage.Stage.TheVariants.{Start, Working, Preparing, Looking, GivingUp, Releasing, Committing, Stamping, Ending, Ended}
use Rattle.hek_worker.specs.History.{IsEntry, IsHistory, Replays, history_events, replies_in}
use Rattle.hek_program.specs.declared.rule.Act.{Act}
use Rattle.hek_program.specs.declared.rule.Act.TheVariants.{Makes, Skips, Fails}
use Rattle.hek_program.specs.declared.rule.Rule.{Rule}
use Rattle.hek_program.specs.declared.term.Factor.{Factor}
use Rattle.hek_program.specs.Acts.{act_of, made, with_value, writes}
use Rattle.hek_program.specs.Conditions.{all_hold}
use Rattle.hek_program.specs.Terms.{Product, value_of}
use Rattle.hek_program.specs.Told.{seen_by}
use Rattle.hek_permute.specs.declared.moves.Form.{Form}
use Rattle.hek_permute.specs.declared.play.Place.{Place}
use Rattle.hek_permute.specs.Found.{Found}
use Rattle.hek_permute.specs.declared.moves.Move.{Move}
use Rattle.hek_permute.specs.Moves.{Work, first_rule, is_move, later_rules, with_rules}
use Rattle.hek_permute.specs.Outcomes.{IsOutcomeOf}
use Rattle.hek_permute.specs.declared.play.Turn.{Turn}
use Rattle.hek_permute.specs.declared.play.Turn.TheVariants.{Goes, Asks, Looks, Rests}
use Rattle.hek_permute.specs.Plays.{IsPlay, Plays, HasMoved, Scene, Shown, Reaches, both, seat, due, event_by, next_of, next_by, own_of, shown_to, step_event}
use Rattle.hek_permute.proofs.Plays.{plays_on}
use Rattle.hek_permute.proofs.RunReplies.{events-append, told, told-before}
use Rattle.hek_explore.specs.Groups.{group_in}
use Rattle.hek_explore.specs.Codes.{code_of, shape_code}
use Rattle.hek_explore.specs.Twins.{HasPlayed, AreTwins}
use Rattle.hek_explore.specs.Steps.{AreRuled, HasKey, LeadsBy, EndsWith}
use Rattle.hek_explore.specs.Laws.{HasTwin}
use Rattle.hek_explore.proofs.Extended.{extends-alike}
use Rattle.hek_explore.proofs.Scanned.{steps-scan}
use Rattle.hek_explore.proofs.Keys.{keys-twins}
use Rattle.hek_explore.proofs.Outcomes.{one-outcome}
use Rattle.hek_explore.proofs.Codes.{same-shapes}
use Rattle.hek_explore.proofs.Shapes.{twins-shape}

-- ---- the events of a play scan buckets that exist, each of whose keys are of one group
abbrev IsFit : (ℕ → ℕ) → ℕ → Event → Type 0
IsFit g b e = IsPlaced b e × ScansGroup g b e

all-got : {X : Type 0} (P : X → Type 0) (xs : List X) (i : ℕ) (x : X) → All P xs → slice_get xs i ≡ Some x → P x
all-got P [] i x all e = absurd (cc)
all-got P (y ∷ ys) zero x all e = let is : y ≡ x = cc in subst P is (All-head P y ys all)
all-got P (y ∷ ys) (suc i) x all e = all-got P ys i x (All-tail P y ys all) e

-- ---- the events of steps
with-fit : (g : ℕ → ℕ) (b n : ℕ) (e : Event) → IsFit g b e → IsFit g b (with_value n e)
with-fit g b n (event.Insert t key value) f = (tt, tt)
with-fit g b n (event.Update t key value) f = (tt, tt)
with-fit g b n e f = f

writes-fit : (g : ℕ → ℕ) (b : ℕ) (e made_by : Event) (o : Option ℕ) → writes e o ≡ Makes made_by → IsFit g b e → IsFit g b made_by
writes-fit g b e made_by None is f = absurd (cc)
writes-fit g b e made_by (Some n) is f = let same : with_value n e ≡ made_by = cc in subst (IsFit g b) same (with-fit g b n e f)

made-fit : (g : ℕ → ℕ) (b : ℕ) (v : Factor → Option ℕ) (e made_by : Event) (term : List Product) → made v e term ≡ Makes made_by → IsFit g b e → IsFit g b made_by
made-fit g b v (event.Fail t) made_by term is f = absurd (cc)
made-fit g b v e made_by [] is f = let same : e ≡ made_by = cc in subst (IsFit g b) same f
made-fit g b v e made_by (p ∷ ps) is f = writes-fit g b e made_by (value_of v (p ∷ ps)) is f

act-fit : (g : ℕ → ℕ) (b : ℕ) (c : Bool) (v : Factor → Option ℕ) (e made_by : Event) (term : List Product) → (if c then made v e term else Skips) ≡ Makes made_by → IsFit g b e → IsFit g b made_by
act-fit g b true v e made_by term is f = made-fit g b v e made_by term is f
act-fit g b false v e made_by term is f = absurd (cc)

-- the events of these steps
abbrev AreStepsFit : (ℕ → ℕ) → ℕ → List Move → Type 0
AreStepsFit g b steps = All (λ (m : Move). IsFit g b m.event) steps

map-some : {X Y : Type 0} (f : X → Y) (o : Option X) (y : Y) → option_map f o ≡ Some y → (x : X) × (o ≡ Some x) × (f x ≡ y)
map-some f None y e = absurd (cc)
map-some f (Some x) y e = (x, refl, cc)

shown-fit : (g : ℕ → ℕ) (b : ℕ) (v : Factor → Option ℕ) (steps : List Move) (i : ℕ) (e : Event) → AreStepsFit g b steps
    → slice_get (map (λ (m : Move). act_of v m.event m.rule) steps) i ≡ Some (Makes e) → IsFit g b e
shown-fit g b v steps i e all is =
    let s : (m : Move) × (slice_get steps i ≡ Some m) × (act_of v m.event m.rule ≡ Makes e) =
    map-some (λ (m : Move). act_of v m.event m.rule) (slice_get steps i) (Makes e) (sym (slice_get-map (λ (m : Move). act_of v m.event m.rule) steps i) ∙ is) in
    act-fit g b (all_hold v s.0.rule.when) v s.0.event e s.0.rule.amount s.2 (all-got (λ (m : Move). IsFit g b m.event) steps i s.0 all s.1)

step-fit : (g : ℕ → ℕ) (b t : ℕ) (o : Option Act) → ((e : Event) → o ≡ Some (Makes e) → IsFit g b e) → IsFit g b (step_event t o)
step-fit g b t None h = (tt, tt)
step-fit g b t (Some (Makes e)) h = h e refl
step-fit g b t (Some Skips) h = (tt, tt)
step-fit g b t (Some Fails) h = (tt, tt)

event-fit : (g : ℕ → ℕ) (b t : ℕ) (w : Work) (h : List Entry) (s : Stage) → AreStepsFit g b w.steps → IsFit g b (event_by t (shown_to w t h) s)
event-fit g b t w h Start all = (tt, tt)
event-fit g b t w h (Working n) all =
    step-fit g b t (slice_get (shown_to w t h).acts n) (λ e is. shown-fit g b (seen_by w.buckets (own_of t h)) w.steps n e all is)
event-fit g b t w h Preparing all = (tt, tt)
event-fit g b t w h Looking all = (tt, tt)
event-fit g b t w h GivingUp all = (tt, tt)
event-fit g b t w h (Releasing cut) all = (tt, tt)
event-fit g b t w h Committing all = (tt, tt)
event-fit g b t w h (Stamping cut) all = (tt, tt)
event-fit g b t w h Ending all = (tt, tt)
event-fit g b t w h Ended all = (tt, tt)

-- so do the works of a schedule's transactions
abbrev AreWorksFit : (ℕ → ℕ) → ℕ → List Work → Type 0
AreWorksFit g b works = (i : ℕ) (w : Work) → slice_get works i ≡ Some w → AreStepsFit g b w.steps

both-shown : (v : Option Shown) (q : Option Place) (x : Shown × Place) → both v q ≡ Some x → v ≡ Some x.0
both-shown None q x e = absurd (cc)
both-shown (Some w) None x e = absurd (cc)
both-shown (Some w) (Some q) x e = let same : ◌≡◌ {A = Shown × Place} (w, q) x = cc in ap (λ (z : Shown × Place). Some z.0) same

own-fit : (g : ℕ → ℕ) (b : ℕ) (form : Form) (works : List Work) (h : List Entry) (places : List Place) (i : ℕ) (y : ℕ × Event) → AreWorksFit g b works
    → option_map (next_of form i) (seat works h places i) ≡ Some y → IsFit g b y.1
own-fit g b form works h places i y all e =
    let s : (x : Shown × Place) × (seat works h places i ≡ Some x) × (next_of form i x ≡ y) = map-some (next_of form i) (seat works h places i) y e in
    let own : option_map (λ w. shown_to w (i + 1) h) (slice_get works i) ≡ Some s.0.0 =
    both-shown (option_map (λ w. shown_to w (i + 1) h) (slice_get works i)) (slice_get places i) s.0 s.1 in
    let work : (w : Work) × (slice_get works i ≡ Some w) × (shown_to w (i + 1) h ≡ s.0.0) = map-some (λ (w : Work). shown_to w (i + 1) h) (slice_get works i) s.0.0 own in
    subst (λ (z : ℕ × Event). IsFit g b z.1) s.2
    (subst (λ (v : Shown). IsFit g b (event_by (i + 1) v (due form s.0.0 s.0.1))) work.2 (event-fit g b (i + 1) work.0 h (due form s.0.0 s.0.1) (all i work.0 work.1)))

next-fit : (g : ℕ → ℕ) (b : ℕ) (form : Form) (works : List Work) (t : ℕ) (h : List Entry) (places : List Place) (turn : Turn) (y : ℕ × Event) → AreWorksFit g b works
    → next_by form works t h places turn ≡ Some y → IsFit g b y.1
next-fit g b form works t h places (Goes i) y all e = own-fit g b form works h places i y all e
next-fit g b form works t h places (Asks i but got_on) y all e = own-fit g b form works h places i y all e
next-fit g b form works t h places Looks y all e = let same : ◌≡◌ {A = ℕ × Event} (t, event.Detect) y = cc in subst (λ (z : ℕ × Event). IsFit g b z.1) same (tt, tt)
next-fit g b form works t h places Rests y all e = absurd (cc)

reach-fit : (g : ℕ → ℕ) (b : ℕ) (form : Form) (works : List Work) (t : ℕ) (h : List Entry) (s z : Scene) (xs : List Entry) → AreWorksFit g b works → Reaches form works t h s xs z
    → All (IsFit g b) (history_events xs)
reach-fit g b form works t h s z [] all so = All-nil (IsFit g b)
reach-fit g b form works t h s z (x ∷ xs) all so =
    All-cons (IsFit g b) x.event (history_events xs) (next-fit g b form works t h s.places s.turn (x.worker, x.event) all so.0)
    (reach-fit g b form works t (h ++ x ∷ []) so.1 z xs all so.3)

plays-fit : (g : ℕ → ℕ) (b : ℕ) (form : Form) (works : List Work) (past : List ℕ) (places : List Place) (h : List Entry) → AreWorksFit g b works → Plays form works past places h
    → All (IsFit g b) (history_events h)
plays-fit g b form works [] places h all so = subst (λ (l : List Entry). All (IsFit g b) (history_events l)) (sym so.1) (All-nil (IsFit g b))
plays-fit g b form works (t ∷ past) places h all so =
    let was : List Place = so.0 in let before : List Entry = so.1 in let more : List Entry = so.2 in
    subst (λ (l : List Entry). All (IsFit g b) (history_events l)) (sym so.5)
    (subst (All (IsFit g b)) (sym (events-append before more))
    (All-append (IsFit g b) (history_events before) (history_events more) (plays-fit g b form works past was before all so.3)
    (reach-fit g b form works t before so.4.0 so.4.1 more all so.4.3)))

-- what holds of all, and another thing that does
both-fit : {X : Type 0} (P Q : X → Type 0) (xs : List X) → All P xs → All Q xs → All (λ x. P x × Q x) xs
both-fit P Q [] a b = All-nil (λ x. P x × Q x)
both-fit P Q (x ∷ xs) a b = All-cons (λ x. P x × Q x) x xs (All-head P x xs a, All-head Q x xs b) (both-fit P Q xs (All-tail P x xs a) (All-tail Q x xs b))

firsts-fit : {X : Type 0} (P Q : X → Type 0) (xs : List X) → All (λ x. P x × Q x) xs → All P xs
firsts-fit P Q [] a = All-nil P
firsts-fit P Q (x ∷ xs) a = All-cons P x xs (All-head (λ x. P x × Q x) x xs a).0 (firsts-fit P Q xs (All-tail (λ x. P x × Q x) x xs a))

seconds-fit : {X : Type 0} (P Q : X → Type 0) (xs : List X) → All (λ x. P x × Q x) xs → All Q xs
seconds-fit P Q [] a = All-nil Q
seconds-fit P Q (x ∷ xs) a = All-cons Q x xs (All-head (λ x. P x × Q x) x xs a).1 (seconds-fit P Q xs (All-tail (λ x. P x × Q x) x xs a))

rules-fit : (g : ℕ → ℕ) (b : ℕ) (steps : List Event) (rules : List Rule) → All (IsFit g b) steps → AreStepsFit g b (with_rules steps rules)
rules-fit g b [] rules all = All-nil (λ (m : Move). IsFit g b m.event)
rules-fit g b (e ∷ es) rules all =
    All-cons (λ (m : Move). IsFit g b m.event) (record { event = e; rule = first_rule rules }) (with_rules es (later_rules rules)) (All-head (IsFit g b) e es all)
    (rules-fit g b es (later_rules rules) (All-tail (IsFit g b) e es all))

work-fit : (p : Plan) (works : List Work) (i : ℕ) (w : Work) → IsPlan p → AreRuled p works → slice_get works i ≡ Some w → AreStepsFit (group_in p) p.buckets w.steps
work-fit p works i w plan are g =
    subst (λ (v : Work). AreStepsFit (group_in p) p.buckets v.steps) (sym (are.are.each i w g))
    (All-filter (is_move (i + 1)) (λ (m : Move). IsFit (group_in p) p.buckets m.event) (with_rules p.steps are.rules)
    (rules-fit (group_in p) p.buckets p.steps are.rules
    (both-fit (IsPlaced p.buckets) (ScansGroup (group_in p) p.buckets) p.steps (steps_placed p p.steps plan refl) (steps-scan p))))

play-fit : (p : Plan) (form : Form) (works : List Work) (past : List ℕ) (places : List Place) (h : List Entry) → IsPlan p → AreRuled p works
    → Plays form works past places h → All (IsFit (group_in p) p.buckets) (history_events h)
play-fit p form works past places h plan are so = plays-fit (group_in p) p.buckets form works past places h (λ i w g. work-fit p works i w plan are g) so

-- ---- the beginning of a play
All-left : {X : Type 0} (P : X → Type 0) (xs ys : List X) → All P (xs ++ ys) → All P xs
All-left P [] ys all = All-nil P
All-left P (x ∷ xs) ys all = All-cons P x xs (All-head P x (xs ++ ys) all) (All-left P xs ys (All-tail P x (xs ++ ys) all))

played-by : (p : Plan) (form : Form) (works : List Work) (past : List ℕ) (places : List Place) (h : List Entry) → IsPlan p → AreRuled p works → IsHistory (length p.txns) h
    → replies_in h ≡ told (opening_of p 1) (history_events h) → Plays form works past places h → HasPlayed p form works past places h
played-by p form works past places h plan are formed replies come = record {
  formed = formed;
  placed = firsts-fit (IsPlaced p.buckets) (ScansGroup (group_in p) p.buckets) (history_events h) (play-fit p form works past places h plan are come);
  scans = seconds-fit (IsPlaced p.buckets) (ScansGroup (group_in p) p.buckets) (history_events h) (play-fit p form works past places h plan are come);
  replies = replies;
  play = come;
}

-- ---- one move
module _ (p : Plan) (form : Form) (works : List Work) (past : List ℕ) (t : ℕ) (places later : List Place) (h now : List Entry) (m : Engine) (are : AreRuled p works)
    (so : Plays form works past places h) (moved : HasMoved form works t places h later now) (replays : Replays p m now) where
  first-played : HasPlayed p form works past places h
  first-played =
      played-by p form works past places h replays.plan are
      (All-left (IsEntry (length p.txns)) h moved.more (subst (IsHistory (length p.txns)) moved.grown replays.formed))
      (told-before (opening_of p 1) h moved.more (subst (λ l. replies_in l ≡ told (opening_of p 1) (history_events l)) moved.grown replays.ran.replies)) so

  next-played : HasPlayed p form works (t ∷ past) later now
  next-played = played-by p form works (t ∷ past) later now replays.plan are replays.formed replays.ran.replies (plays_on form works t past places later h now so moved)

  pub leads : LeadsBy p form works t (code_of p places h) (code_of p later now) (length now)
  leads others longest k short =
      let same : (places ≡ k.places) × AreTwins p h k.history = keys-twins p form works past others places k.places h k.history replays.plan first-played k.played (same-shapes p places k.places h k.history (sym k.is)) in
      let other : HasPlayed p form works others places k.history = subst (λ (ps : List Place). HasPlayed p form works others ps k.history) (sym same.0) k.played in
      let within : length k.history ≤ longest = k.short in
      let twin : HasTwin p form works (t ∷ others) later now (length k.history + length now) =
      extends-alike p form works past others t places later h now k.history replays.plan first-played moved next-played other same.1 (omega (arith, within, short)) in
      let few : length twin.twin ≤ length k.history + length now = twin.short in
      record {
        history = twin.twin;
        places = later;
        played = twin.played;
        is = sym (ap shape_code (twins-shape p form works (t ∷ past) (t ∷ others) later now twin.twin replays.plan next-played twin.played twin.twins));
        short = omega (arith, few, within);
      }

-- ---- the first key, and the last
pub first-key : (p : Plan) (form : Form) (works : List Work) (places : List Place) (h : List Entry) (m : Engine) → AreRuled p works → Plays form works [] places h → Replays p m h → h ≡ []
    → HasKey p form works [] (code_of p places h) 0
first-key p form works places h m are come replays none = record {
  history = h;
  places = places;
  played = played-by p form works [] places h replays.plan are replays.formed replays.ran.replies come;
  is = refl;
  short = omega (arith, ap (λ (l : List Entry). length l) none);
}

pub last-key : (p : Plan) (form : Form) (works : List Work) (past : List ℕ) (places : List Place) (h : List Entry) (m : Engine) (o : Found) → AreRuled p works → Plays form works past places h
    → Replays p m h → IsOutcomeOf p h o → EndsWith p form works (code_of p places h) o
last-key p form works past places h m o are come replays outcome others longest k =
    let mine : HasPlayed p form works past places h = played-by p form works past places h replays.plan are replays.formed replays.ran.replies come in
    let same : (places ≡ k.places) × AreTwins p h k.history = keys-twins p form works past others places k.places h k.history replays.plan mine k.played (same-shapes p places k.places h k.history (sym k.is)) in
    let other : HasPlayed p form works others places k.history = subst (λ (ps : List Place). HasPlayed p form works others ps k.history) (sym same.0) k.played in
    record {
      history = k.history;
      formed = k.played.formed;
      replies = k.played.replies;
      play = subst (λ (ts : List ℕ). IsPlay form works ts k.history) (sym (reverse-reverse others)) (k.places, k.played.play);
      outcome = one-outcome p form works past others places h k.history o replays.plan mine other same.1 outcome;
    }
