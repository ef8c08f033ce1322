use Rattle.hek_permute.proofs.Constant.{plain-constant}
use Rattle.hek_permute.proofs.one_play.plain_moves_are_constant.Goals as goal

pub returns : goal.returns
returns c = plain-constant
