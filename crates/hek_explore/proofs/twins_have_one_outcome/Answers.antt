use Rattle.hek_explore.proofs.Outcomes.{one-outcome}
use Rattle.hek_explore.proofs.twins_have_one_outcome.Goals as goal

pub returns : goal.returns
returns c = one-outcome
