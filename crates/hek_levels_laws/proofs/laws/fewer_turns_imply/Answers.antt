use Rattle.hek_levels_laws.proofs.Fewer.{fewer_turns_imply}
use Rattle.hek_levels_laws.proofs.laws.fewer_turns_imply.Goals as goal

pub returns : goal.returns
returns c = fewer_turns_imply
