use Rattle.std.proofs.Common.{◌≡◌, sym, ap, ◌∙◌}
use Rattle.std.proofs.lemmas.Bool.{true≢false}
use Rattle.std.specs.Prelude.{codes}
use Rattle.json.specs.Find.{get}
use Rattle.hek_history_log.proofs.reader.add_object.Goals as goal

pub returns-then-is_opening-clause-next : goal.returns-then-is_opening-clause-next
returns-then-is_opening-clause-next c buckets rows ts t had readable few is = absurd (true≢false (sym c.if-is_opening.true ∙ c.is_opening.ensures.next had.opening))

pub returns-clause-opening : goal.returns-clause-opening
returns-clause-opening c buckets rows positive small are fresh is number = absurd (true≢false (sym (c.is_opening.ensures.opening fresh (ap (get (codes "txn")) is)) ∙ c.if-is_opening.false))
