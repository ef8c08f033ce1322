use Rattle.std.proofs.Common.{◌≡◌, ℕ, Option, Some, Ok, sym, ap, subst, ◌∙◌}
use Rattle.std.proofs.lemmas.Bool.{true≢false}
use Rattle.json.specs.Find.{get}
use Rattle.json.specs.Value.{value_view}
use Rattle.hek_history_log.specs.LogText.{interval_json}
use Rattle.hek_history_log.specs.Readable.{AreInOrder}
use Rattle.hek_history_log.proofs.JsonLemmas.{found_is}
use Rattle.hek_history_log.proofs.KeptLemmas.{some_is, some_or_none}
use Rattle.hek_history_log.proofs.fields.interval_of.Goals as goal

pub returns-in_default-interval_in-clause-some : goal.returns-in_default-interval_in-clause-some
returns-in_default-interval_in-clause-some c invoked answered first second order is =
    let value = found_is c.get.result c.in-Some.value _ (interval_json invoked answered) c.get.ensures c.in-Some.is is in
    let k = c.interval_in.ensures invoked answered first second value in
    absurd (some_or_none (invoked, answered) (sym k ∙ c.in_default-interval_in.is))

pub returns-then-are_reversed-clause-some : goal.returns-then-are_reversed-clause-some
returns-then-are_reversed-clause-some c invoked answered first second order is =
    let value = found_is c.get.result c.in-Some.value _ (interval_json invoked answered) c.get.ensures c.in-Some.is is in
    let k = c.interval_in.ensures invoked answered first second value in
    let p : (c.in-Some-interval_in.invoked, c.in-Some-interval_in.answered) ≡ (invoked, answered) = some_is _ _ (sym c.in-Some-interval_in.is ∙ k) in
    let o : AreInOrder c.in-Some-interval_in.invoked c.in-Some-interval_in.answered = subst (λ (q : Option ℕ × Option ℕ). AreInOrder q.0 q.1) (sym p) order in
    absurd (true≢false (sym c.if-are_reversed.true ∙ c.are_reversed.ensures o))

pub returns-clause-some : goal.returns-clause-some
returns-clause-some c invoked answered first second order is =
    let value = found_is c.get.result c.in-Some.value _ (interval_json invoked answered) c.get.ensures c.in-Some.is is in
    let k = c.interval_in.ensures invoked answered first second value in
    let p : (c.in-Some-interval_in.invoked, c.in-Some-interval_in.answered) ≡ (invoked, answered) = some_is _ _ (sym c.in-Some-interval_in.is ∙ k) in
    ap Ok p
