-- Each order of moves has one play.
use Rattle.std.proofs.Common.{◌≡◌, ℕ, Bool, List, [], ◌∷◌, ◌++◌, refl, ap, sym, subst, ◌∙◌, Some, None, reverse}
use Rattle.hek_rules.specs.Plan.{Plan}
use Rattle.hek_rules.specs.Recorded.{Recorded}
use Rattle.hek_rules.specs.Run.{run}
use Rattle.hek_rules.specs.World.{World}
use Rattle.hek_serial.specs.SerialOrders.{IsSerializability}
use Rattle.hek_serial.specs.declared.serializability.Serializability.{Serializability}
use Rattle.hek_serial.specs.declared.serializability.Serializability.TheVariants.{ByEndTime, InAnotherOrder, NotSerial}
use Rattle.hek_machine.specs.Observed.{opening_of}
use Rattle.hek_worker.specs.declared.entry.Entry.{Entry}
use Rattle.hek_worker.specs.History.{history_events, replies_in, recorded_by}
use Rattle.hek_permute.specs.declared.moves.Form.{Form}
use Rattle.hek_permute.specs.declared.outcome.Ending.{Ending}
use Rattle.hek_permute.specs.declared.play.Place.{Place}
use Rattle.hek_permute.specs.Found.{Found}
use Rattle.hek_permute.specs.Moves.{Work}
use Rattle.hek_permute.specs.OnePlay.{EachOrderHasOnePlay, EachOrderHasOneOutcome}
use Rattle.hek_permute.specs.Outcomes.{IsOutcomeOf}
use Rattle.hek_permute.specs.Plays.{Plays, Scene, Reaches, SetsOff, comes}
use Rattle.hek_permute.proofs.OneWay.{one_way, same_some}
use Rattle.hek_permute.proofs.RunReplies.{told, told-after, told-before}

-- a move sets off one list of events, after which the transactions are at one list of places
one_move : (form : Form) (works : List Work) (t : ℕ) (w : World) (k : List Entry) (was places seats : List Place) (xs ys : List Entry) → SetsOff form works t k was xs places → SetsOff form works t k was ys seats
    → replies_in xs ≡ told w (history_events xs) → replies_in ys ≡ told w (history_events ys) → (xs ≡ ys) × (places ≡ seats)
one_move form works t w k was places seats xs ys h g a b =
    let first : g.0 ≡ h.0 = same_some (comes form works k was t) g.0 h.0 g.2 h.2 in
    let way : (xs ≡ ys) × (h.1 ≡ g.1) =
    one_way form works t w k h.0 h.1 g.1 xs ys h.3 (subst (λ (s : Scene). Reaches form works t k s ys g.1) first g.3) h.4 g.4 a b in
    (way.0, sym h.5 ∙ ap (λ (s : Scene). s.places) way.1 ∙ g.5)

one_way_on : (form : Form) (works : List Work) (w : World) (past : List ℕ) (places seats : List Place) (h k : List Entry) → Plays form works past places h → Plays form works past seats k
    → replies_in h ≡ told w (history_events h) → replies_in k ≡ told w (history_events k) → (h ≡ k) × (places ≡ seats)
one_way_on form works w [] places seats h k so to a b = (so.1 ∙ sym to.1, so.0 ∙ sym to.0)
one_way_on form works w (t ∷ past) places seats h k so to a b =
    let early : replies_in so.1 ≡ told w (history_events so.1) = told-before w so.1 so.2 (subst (λ (l : List Entry). replies_in l ≡ told w (history_events l)) so.5 a) in
    let soon : replies_in to.1 ≡ told w (history_events to.1) = told-before w to.1 to.2 (subst (λ (l : List Entry). replies_in l ≡ told w (history_events l)) to.5 b) in
    let before : (so.1 ≡ to.1) × (so.0 ≡ to.0) = one_way_on form works w past so.0 to.0 so.1 to.1 so.3 to.3 early soon in
    let mine : replies_in so.2 ≡ told (run w (history_events so.1)) (history_events so.2) = told-after w so.1 h so.2 so.5 early a in
    let other : replies_in to.2 ≡ told (run w (history_events so.1)) (history_events to.2) =
    subst (λ (l : List Entry). replies_in to.2 ≡ told (run w (history_events l)) (history_events to.2)) (sym before.0) (told-after w to.1 k to.2 to.5 soon b) in
    let move : (so.2 ≡ to.2) × (places ≡ seats) =
    one_move form works t (run w (history_events so.1)) so.1 so.0 places seats so.2 to.2 so.4
    (subst (λ (l : List Entry). SetsOff form works t l so.0 to.2 seats) (sym before.0) (subst (λ (l : List Place). SetsOff form works t to.1 l to.2 seats) (sym before.1) to.4)) mine other in
    (so.5 ∙ ap (λ (l : List Entry). l ++ so.2) before.0 ∙ ap (λ (l : List Entry). to.1 ++ l) move.0 ∙ sym to.5, move.1)

pub one_play : EachOrderHasOnePlay
one_play p form works past h k so to = (one_way_on form works (opening_of p 1) past so.play.0 to.play.0 h k so.play.1 to.play.1 so.replies to.replies).0

one_verdict : (s : Recorded) (v w : Serializability) → IsSerializability s v → IsSerializability s w → v ≡ w
one_verdict s ByEndTime ByEndTime a b = refl
one_verdict s ByEndTime InAnotherOrder a b = absurd (b.0 a)
one_verdict s ByEndTime NotSerial a b = absurd (b.0 a)
one_verdict s InAnotherOrder ByEndTime a b = absurd (a.0 b)
one_verdict s InAnotherOrder InAnotherOrder a b = refl
one_verdict s InAnotherOrder NotSerial a b = absurd (b.1 a.1.0 a.1.1)
one_verdict s NotSerial ByEndTime a b = absurd (a.0 b)
one_verdict s NotSerial InAnotherOrder a b = absurd (a.1 b.1.0 b.1.1)
one_verdict s NotSerial NotSerial a b = refl

same_found : (o q : Found) → o.ends ≡ q.ends → o.rows ≡ q.rows → o.verdict ≡ q.verdict → o.waited ≡ q.waited → o ≡ q
same_found o q a b c d =
    ap (λ (x : List Ending). record { ends = x; rows = o.rows; verdict = o.verdict; waited = o.waited }) a
    ∙ ap (λ (x : List (ℕ × ℕ)). record { ends = q.ends; rows = x; verdict = o.verdict; waited = o.waited }) b
    ∙ ap (λ (x : Serializability). record { ends = q.ends; rows = q.rows; verdict = x; waited = o.waited }) c
    ∙ ap (λ (x : Bool). record { ends = q.ends; rows = q.rows; verdict = q.verdict; waited = x }) d

outcome_of-one : (p : Plan) (h : List Entry) (o q : Found) → IsOutcomeOf p h o → IsOutcomeOf p h q → o ≡ q
outcome_of-one p h o q a b =
    same_found o q (a.ends ∙ sym b.ends) (a.rows ∙ sym b.rows) (one_verdict (recorded_by p h) o.verdict q.verdict a.verdict b.verdict) (a.waited ∙ sym b.waited)

pub one_outcome : EachOrderHasOneOutcome
one_outcome p form works order o q a b =
    let same : a.history ≡ b.history =
    one_play p form works (reverse order) a.history b.history (record { play = a.play; replies = a.replies }) (record { play = b.play; replies = b.replies }) in
    outcome_of-one p b.history o q (subst (λ (h : List Entry). IsOutcomeOf p h o) same a.outcome) b.outcome
