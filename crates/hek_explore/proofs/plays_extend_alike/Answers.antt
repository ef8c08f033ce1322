use Rattle.hek_explore.proofs.Extended.{extends-alike}
use Rattle.hek_explore.proofs.plays_extend_alike.Goals as goal

pub returns : goal.returns
returns c = extends-alike
