use Rattle.std.proofs.Common.{◌≡◌, suc, length, get_or, sym, ap, ◌∙◌, subst, refl, arith}
use Rattle.std.proofs.lemmas.Bool.{false≢true}
use Rattle.std.proofs.lemmas.Grind.{common_steps}
use Rattle.std.specs.Str.{IsUtf8}
use Rattle.json.specs.Json.{document}
use Rattle.hek_history_log.specs.LogText.{transaction_json, opening_json}
use Rattle.hek_history_log.proofs.DocumentLemmas.{Spells, opening_spells, transaction_spells}
use Rattle.hek_history_log.proofs.reader.add_line.Goals as goal

pub returns-then-is_blank-clause-opening : goal.returns-then-is_blank-clause-opening
returns-then-is_blank-clause-opening c buckets rows some small are fresh is numbered =
    let s = opening_spells buckets rows small are in
    absurd (false≢true (sym (c.is_blank.ensures (ap (λ l. get_or l 0 0) is ∙ s.begins)) ∙ c.if-is_blank.true))

pub returns-then-is_blank-clause-next : goal.returns-then-is_blank-clause-next
returns-then-is_blank-clause-next c buckets rows ts t had readable few is =
    let s = transaction_spells buckets (suc (length ts)) t (omega arith) readable in
    absurd (false≢true (sym (c.is_blank.ensures (ap (λ l. get_or l 0 0) is ∙ s.begins)) ∙ c.if-is_blank.true))

pub returns-in_err-object-clause-opening : goal.returns-in_err-object-clause-opening
returns-in_err-object-clause-opening c buckets rows some small are fresh is numbered =
    let s = opening_spells buckets rows small are in
    let e = c.in_err-object.ensures (opening_json buckets rows) _ refl (subst IsUtf8 (sym is) s.utf8) (ap document is ∙ s.reads) in
    grind (arith, common_steps)

pub returns-in_err-object-clause-next : goal.returns-in_err-object-clause-next
returns-in_err-object-clause-next c buckets rows ts t had readable few is =
    let s = transaction_spells buckets (suc (length ts)) t (omega arith) readable in
    let e = c.in_err-object.ensures (transaction_json (suc (length ts)) t) _ refl (subst IsUtf8 (sym is) s.utf8) (ap document is ∙ s.reads) in
    grind (arith, common_steps)

pub returns-clause-opening : goal.returns-clause-opening
returns-clause-opening c buckets rows some small are fresh is numbered =
    let s = opening_spells buckets rows small are in
    let read = c.in_ok-object.ensures (opening_json buckets rows) _ refl (subst IsUtf8 (sym is) s.utf8) (ap document is ∙ s.reads) in
    c.add_object.ensures.opening buckets rows some small are fresh read numbered

pub returns-clause-next : goal.returns-clause-next
returns-clause-next c buckets rows ts t had readable few is =
    let s = transaction_spells buckets (suc (length ts)) t (omega arith) readable in
    let read = c.in_ok-object.ensures (transaction_json (suc (length ts)) t) _ refl (subst IsUtf8 (sym is) s.utf8) (ap document is ∙ s.reads) in
    c.add_object.ensures.next buckets rows ts t had readable few read
