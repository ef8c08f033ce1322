use Rattle.hek_laws.proofs.Sound.Named.{words-entries}
use Rattle.hek_laws.proofs.words_have_entries.Goals as goal

pub returns : goal.returns
returns c = words-entries
