use Rattle.hek_laws.proofs.Sound.Named.{waits-bounded}
use Rattle.hek_laws.proofs.waits_are_bounded.Goals as goal

pub returns : goal.returns
returns c = waits-bounded
