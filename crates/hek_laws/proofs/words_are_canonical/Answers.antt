use Rattle.hek_laws.proofs.Sound.Named.{words-canonical}
use Rattle.hek_laws.proofs.words_are_canonical.Goals as goal

pub returns : goal.returns
returns c = words-canonical
