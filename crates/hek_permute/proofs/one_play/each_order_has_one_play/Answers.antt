use Rattle.hek_permute.proofs.OnePlay.{one_play}
use Rattle.hek_permute.proofs.one_play.each_order_has_one_play.Goals as goal

pub returns : goal.returns
returns c = one_play
