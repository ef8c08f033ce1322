use Rattle.hek_laws.proofs.Sound.Named.{flags-alone}
use Rattle.hek_laws.proofs.flags_stand_without_readers.Goals as goal

pub returns : goal.returns
returns c = flags-alone
