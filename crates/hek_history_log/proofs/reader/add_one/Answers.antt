use Rattle.std.proofs.Common.{refl, ap, arith, ◌∙◌}
use Rattle.std.proofs.lemmas.Grind.{common_steps}
use Rattle.std.specs.Prelude.{codes}
use Rattle.json.specs.Find.{get}
use Rattle.hek_history_log.proofs.FieldLemmas.{get-ops}
use Rattle.hek_history_log.proofs.reader.add_one.Goals as goal

pub returns-in_err-read_versions : goal.returns-in_err-read_versions
returns-in_err-read_versions c buckets name t readable given who is =
    let e = c.in_err-read_versions.ensures t.operations.items (ap (get (codes "ops")) is ∙ get-ops name t) in
    grind (arith, common_steps)

pub returns : goal.returns
returns c buckets name t readable given who is =
    let g = c.in_ok-transaction.ensures buckets name t readable given is in
    record { labels = g.0; rows = refl; opening = refl; seen = refl; turns = c.in_ok-add.ensures who; read = c.in_ok-transaction.transaction; added = c.in_ok-push.ensures.items; same = g.1 }
