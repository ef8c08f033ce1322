use Rattle.hek_laws.proofs.Sound.Named.{words-present}
use Rattle.hek_laws.proofs.words_name_present_transactions.Goals as goal

pub returns : goal.returns
returns c = words-present
