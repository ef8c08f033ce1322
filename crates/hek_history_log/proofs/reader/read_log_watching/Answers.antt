use Rattle.hek_history_log.specs.Contents.{SaysSame}
use Rattle.hek_history_log.proofs.LineLemmas.{memory_ends}
use Rattle.hek_history_log.proofs.reader.read_log_watching.Goals as goal

pub returns-in-Err : goal.returns-in-Err
returns-in-Err g c buckets h log is = c.in-Err.ensures buckets h log is c.new-draft.ensures

pub returns-in-Ok : goal.returns-in-Ok
returns-in-Ok g c buckets h log is =
    let had = c.in-Ok.ensures buckets h log is c.new-draft.ensures in
    memory_ends c.finish.result (λ log. SaysSame log.history h.rows.items h.transactions.items) (c.finish.ensures buckets h.rows.items h.transactions.items had log.rows log.transactions)
