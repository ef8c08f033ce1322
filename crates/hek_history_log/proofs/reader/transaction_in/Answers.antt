use Rattle.std.proofs.Common.{◌≡◌, ℕ, Option, None, Ok, inl, inr, refl, sym, ap, ap₂, ◌∙◌, arith}
use Rattle.std.proofs.lemmas.Grind.{common_steps}
use Rattle.std.specs.Prelude.{Result, codes}
use Rattle.json.specs.Find.{get}
use Rattle.hek_history_log.specs.declared.fault.LogFault.{LogFault}
use Rattle.hek_history_log.proofs.FieldLemmas.{from_ops, at_member, get-level, get-status, get-begin, get-end, get-ops, get-at}
use Rattle.hek_history_log.proofs.KeptLemmas.{ok_is}
use Rattle.hek_history_log.proofs.reader.transaction_in.Goals as goal

pub returns-in_err-read_operations : goal.returns-in_err-read_operations
returns-in_err-read_operations c buckets name t readable given is =
    let e = c.in_err-read_operations.ensures buckets t.operations.items readable.operations given (ap (get (codes "ops")) is ∙ get-ops name t) in
    grind (arith, common_steps)

pub returns : goal.returns
returns c buckets name t readable given is =
    let at = ap (get (codes "at")) is ∙ get-at name t in
    let times : c.interval_of.result ≡ Ok (t.invoked, t.answered) = elim (at_member t.invoked t.answered (from_ops name t) refl) [
      | inl n ↦ c.interval_of.ensures.none (at ∙ n.2) ∙ ap₂ (λ (i a : Option ℕ). Ok (i, a)) (sym n.0) (sym n.1)
      | inr some ↦ c.interval_of.ensures.some t.invoked t.answered readable.invoked readable.answered readable.answers (at ∙ some)
    ] in
    let interval : (c.in_ok-invoked.invoked, c.in_ok-invoked.answered) ≡ (t.invoked, t.answered) = ok_is _ _ (sym c.in_ok-invoked.was ∙ times) in
    let own : (c.in_ok-begin.begin, c.in_ok-begin.end) ≡ (t.begin, t.end) =
    ok_is _ _ (sym c.in_ok-begin.was ∙ c.times_of.ensures t.begin t.end readable.begin readable.end readable.ends (ap (get (codes "begin")) is ∙ get-begin name t) (ap (get (codes "end")) is ∙ get-end name t)) in
    let g = c.in_ok-read_operations.ensures buckets t.operations.items readable.operations given (ap (get (codes "ops")) is ∙ get-ops name t) in (
      g.0,
      record {
        level = ok_is _ _ (sym c.in_ok-level.was ∙ c.level_of.ensures t.level (ap (get (codes "level")) is ∙ get-level name t));
        status = ok_is _ _ (sym c.in_ok-status.was ∙ c.status_of.ensures t.status (ap (get (codes "status")) is ∙ get-status name t));
        begin = ap (λ (p : Option ℕ × Option ℕ). p.0) own;
        end = ap (λ (p : Option ℕ × Option ℕ). p.1) own;
        invoked = ap (λ (p : Option ℕ × Option ℕ). p.0) interval;
        answered = ap (λ (p : Option ℕ × Option ℕ). p.1) interval;
        operations = g.1;
      },
    )
