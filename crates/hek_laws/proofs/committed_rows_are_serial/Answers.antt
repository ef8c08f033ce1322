use Rattle.hek_laws.proofs.Runs.Opening.{run-rows}
use Rattle.hek_laws.proofs.committed_rows_are_serial.Goals as goal

pub returns : goal.returns
returns c = λ buckets clock rows levels events distinct first. run-rows buckets clock rows levels distinct first.0 first.1 events
