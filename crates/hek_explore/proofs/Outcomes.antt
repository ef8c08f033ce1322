-- Twins have one outcome.
use Rattle.std.proofs.Common.{◌≡◌, ℕ, suc, zero, ◌+◌, ◌<◌, true, List, [], ◌∷◌, ◌++◌, Some, None, length, refl, ap, sym, subst, ◌∙◌, arith}
use Rattle.std.proofs.lemmas.List.{length-map}
use Rattle.std.proofs.lemmas.List.Elements.{All-cons, All-head, All-nil, All-tail}
use Rattle.std.proofs.lemmas.Bool.Decides.{nat_tests}
use Rattle.std.specs.List.{All}
use Rattle.std.specs.Prelude.{◌↔◌, IsTrue, slice_get, is_some, Option}
use Rattle.hek_rules.specs.declared.event.Event.{Event}
use Rattle.hek_rules.specs.declared.event.Level.{Level}
use Rattle.hek_rules.specs.Events.{txn_of}
use Rattle.hek_rules.specs.Faults.{is_declared, level_of}
use Rattle.hek_rules.specs.Plan.{Plan, IsPlan, IsDeclared, levels_of}
use Rattle.hek_machine.specs.Observed.{opening_of}
use Rattle.hek_serial.specs.SerialOrders.{IsSerializability}
use Rattle.hek_similar.specs.Verdicts.{RecordsRun}
use Rattle.hek_similar.proofs.Told.{told-judged}
use Rattle.hek_similar.proofs.Places.Alike.{alike-rows}
use Rattle.hek_worker.specs.declared.entry.Entry.{Entry}
use Rattle.hek_worker.specs.History.{IsEntry, IsHistory, is_that, history_events, recorded_by}
use Rattle.hek_permute.specs.declared.moves.Form.{Form}
use Rattle.hek_permute.specs.declared.outcome.Ending.{Ending}
use Rattle.hek_permute.specs.declared.play.Place.{Place}
use Rattle.hek_permute.specs.Moves.{Work}
use Rattle.hek_permute.specs.Outcomes.{end_in, ends_upto}
use Rattle.hek_explore.specs.Twins.{steps_in, HasPlayed}
use Rattle.hek_explore.specs.Laws.{TwinsHaveOneOutcome}
use Rattle.hek_explore.proofs.Grown.{steps-told}
use Rattle.hek_explore.proofs.Ordered.{verdicts-alike}

-- ---- the record of a play
some-below : {X : Type 0} (xs : List X) (i : ℕ) → i < length xs → is_some (slice_get xs i) ≡ true
some-below [] i h = absurd (omega arith)
some-below (x ∷ xs) zero h = refl
some-below (x ∷ xs) (suc i) h = some-below xs i (omega arith)

level-some : (levels : List Level) (t : ℕ) → IsDeclared (length levels) t → is_some (level_of levels t) ≡ true
level-some levels zero h = absurd (omega (arith, h.0))
level-some levels (suc i) h = some-below levels i (omega (arith, h.1))

own-declared : (levels : List Level) (t : ℕ) (o : Option ℕ) → IsDeclared (length levels) t → IsTrue (is_that t o) → is_declared levels o ≡ true
own-declared levels t None d h = refl
own-declared levels t (Some u) d h =
    let is : u ≡ t = grind (arith, nat_tests, h) in
    subst (λ n. is_some (level_of levels n) ≡ true) (sym is) (level-some levels t d)

all-declared : (levels : List Level) (n : ℕ) (xs : List Entry) → n ≡ length levels → IsHistory n xs → All (λ (e : Event). is_declared levels (txn_of e) ≡ true) (history_events xs)
all-declared levels n [] same h = All-nil (λ (e : Event). is_declared levels (txn_of e) ≡ true)
all-declared levels n (x ∷ xs) same h =
    let head : IsEntry n x = All-head (IsEntry n) x xs h in
    All-cons (λ (e : Event). is_declared levels (txn_of e) ≡ true) x.event (history_events xs)
    (own-declared levels x.worker (txn_of x.event) (subst (λ (m : ℕ). IsDeclared m x.worker) same head.0) head.1)
    (all-declared levels n xs same (All-tail (IsEntry n) x xs h))

records : (p : Plan) (form : Form) (works : List Work) (past : List ℕ) (places : List Place) (h : List Entry) → IsPlan p → HasPlayed p form works past places h → RecordsRun (recorded_by p h)
records p form works past places h plan played = record {
  clock = 1;
  events = history_events h;
  distinct = plan.keys;
  first = (omega arith, omega arith);
  declared = all-declared (levels_of p) (length p.txns) h (sym (length-map p.txns (λ (t : List ℕ × Level). t.1))) played.formed;
  history = steps-told (opening_of p 1) h played.replies;
}

-- ---- ends
ends-all : (n : ℕ) (h k : List Entry) → ((t : ℕ) → end_in t h ≡ end_in t k) → ends_upto n h ≡ ends_upto n k
ends-all zero h k same = refl
ends-all (suc n) h k same =
    ap (λ (l : List Ending). l ++ end_in (n + 1) h ∷ []) (ends-all n h k same) ∙ ap (λ (e : Ending). ends_upto n k ++ e ∷ []) (same (n + 1))

pub one-outcome : TwinsHaveOneOutcome
one-outcome p form works past others places h k o plan first other twins out =
    let verdict : IsSerializability (recorded_by p h) o.verdict ↔ IsSerializability (recorded_by p k) o.verdict =
    verdicts-alike (recorded_by p h) (recorded_by p k) (records p form works past places h plan first) (records p form works others places k plan other) refl refl
    (told-judged (steps_in h) (steps_in k) twins.told) o.verdict in
    record {
      ends = out.ends ∙ ends-all (length p.txns) h k twins.ends;
      rows = out.rows ∙ alike-rows _ _ _ twins.worlds;
      verdict = verdict.0 out.verdict;
      waited = out.waited ∙ twins.waited;
    }
