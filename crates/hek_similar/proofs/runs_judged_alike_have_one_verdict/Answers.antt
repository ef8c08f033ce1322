use Rattle.hek_similar.proofs.Verdicts.{one-verdict}
use Rattle.hek_similar.proofs.runs_judged_alike_have_one_verdict.Goals as goal

pub returns : goal.returns
returns c = one-verdict
