use Rattle.hek_permute.proofs.OnePlay.{one_outcome}
use Rattle.hek_permute.proofs.one_play.each_order_has_one_outcome.Goals as goal

pub returns : goal.returns
returns c = one_outcome
