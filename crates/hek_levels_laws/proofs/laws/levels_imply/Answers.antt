use Rattle.hek_levels_laws.proofs.Implied.{levels_imply}
use Rattle.hek_levels_laws.proofs.laws.levels_imply.Goals as goal

pub returns : goal.returns
returns c = levels_imply
